-- Words for tables of types.
--
--   `types_in`                 the types of a table, in their order
--   `declarations_of`          the declarations of its program
--   `StandsFor`                an index stands for a type
--   `Keeps`                    what indices stand for is kept
--   `met_if`                   what type parameters have met, if arguments can be met
use Rattle.std.specs.Prelude.{◌≡◌, Bool, List, map, Option, Some, None, if◌then◌else◌}
use Rattle.abs_program.specs.NamedViews.{named_tree}
use Rattle.abs_tree.specs.Syntax.{DeclTree}
use Rattle.abs_types.specs.PlainTypes.{PlainType}
use Rattle.abs_types.specs.TypeShapes.{types_of, type_at, IsAmong}
use Rattle.abs_types.specs.declared.table.TypeTable.{TypeTable}
use Rattle.abs_types.specs.declared.table.shape.Shape.{Shape}
use Rattle.abs_types.specs.declared.table.shape.TypeIndex.{TypeIndex}

-- the types of a table, in their order
unfoldable pub types_in : TypeTable → List PlainType
types_in table = types_of table.program.now.symbols (map (λ (entry : Shape × Bool). entry.0) table.shapes.entries)

-- the declarations of its program
abbrev pub declarations_of : TypeTable → List DeclTree
declarations_of table = (named_tree table.program.now).declarations

-- An index stands for a type.
pub record StandsFor (table : TypeTable) (index : TypeIndex) (type : PlainType) : Type 0 where
  pub among : IsAmong (types_in table) index
  pub is : type_at (types_in table) index ≡ type

-- A table is of the same program as before, and each index stands for what it stood for.
pub record Keeps (before now : TypeTable) : Type 0 where
  pub program_is : now.program ≡ before.program
  pub kept : (index : TypeIndex) (type : PlainType) → StandsFor before index type → StandsFor now index type

-- what type parameters have met, if arguments can be met
abbrev pub met_if : Bool → List PlainType → Option (List PlainType)
met_if could met = if could then Some met else None
