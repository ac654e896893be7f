-- What callers of a table of types need of its growth.
--
--   `among_kept`, `type_at_kept`           an index is still among the types, and stands for the same type
--   `all_among_kept`, `types_at_kept`      the same of several indices
--   `keeps_reflexive`, `keeps_transitive`  a table keeps what it has, also in several steps
--   `declarations_kept`                    it is of the same declarations
use Rattle.std.proofs.Common.{◌≡◌, List, [], ◌∷◌, All, refl, ap₂, ◌∙◌, ap, Bor}
use Rattle.std.proofs.lemmas.List.Elements.{All-head, All-tail}
use Rattle.abs_types.specs.PlainTypes.{PlainType}
use Rattle.abs_types.specs.TypeShapes.{type_at, types_at, IsAmong}
use Rattle.abs_types.specs.TypeTables.{types_in, Keeps, StandsFor, declarations_of}
use Rattle.abs_types.specs.declared.table.TypeTable.{TypeTable}
use Rattle.abs_types.specs.declared.table.shape.TypeIndex.{TypeIndex}
use Rattle.abs_program.specs.declared.named.Named.{Named}
use Rattle.abs_program.specs.NamedViews.{named_tree}

-- an index among the types stands for its type
stands : (table : TypeTable) (index : TypeIndex) → IsAmong (types_in table) index
    → StandsFor table index (type_at (types_in table) index)
stands table index among = record { among = among; is = refl }

-- an index among the types is among them later
pub among_kept : {before now : TypeTable} {index : TypeIndex} → Keeps before now → IsAmong (types_in before) index
    → IsAmong (types_in now) index
among_kept {before} {now} {index} keeps among =
    (keeps.kept index (type_at (types_in before) index) (stands before index among)).among

-- it stands for the same type later
pub type_at_kept : {before now : TypeTable} {index : TypeIndex} → Keeps before now → IsAmong (types_in before) index
    → type_at (types_in now) index ≡ type_at (types_in before) index
type_at_kept {before} {now} {index} keeps among =
    (keeps.kept index (type_at (types_in before) index) (stands before index among)).is

-- several indices among the types are among them later
pub all_among_kept : {before now : TypeTable} (indices : List TypeIndex) → Keeps before now
    → All (IsAmong (types_in before)) indices → All (IsAmong (types_in now)) indices
all_among_kept indices keeps among index default below = among_kept keeps (among index default below)

-- they stand for the same types later
pub types_at_kept : {before now : TypeTable} (indices : List TypeIndex) → Keeps before now
    → All (IsAmong (types_in before)) indices → types_at (types_in now) indices ≡ types_at (types_in before) indices
types_at_kept [] keeps among = refl
types_at_kept {before} (first ∷ others) keeps among =
    ap₂ (λ (one : PlainType) (more : List PlainType). one ∷ more)
    (type_at_kept keeps (All-head (IsAmong (types_in before)) first others among))
    (types_at_kept others keeps (All-tail (IsAmong (types_in before)) first others among))

-- a table keeps what it has
pub keeps_reflexive : {table : TypeTable} → Keeps table table
keeps_reflexive {table} = record { program_is = refl; kept = λ index type stands_for. stands_for }

-- what is kept twice is kept
pub keeps_transitive : {before between now : TypeTable} → Keeps before between → Keeps between now → Keeps before now
keeps_transitive {before} {between} {now} first second = record {
  program_is = second.program_is ∙ first.program_is;
  kept = λ index type stands_for. second.kept index type (first.kept index type stands_for);
}

-- the declarations are the same later
pub declarations_kept : {before now : TypeTable} → Keeps before now → declarations_of now ≡ declarations_of before
declarations_kept keeps = ap (λ (program : Bor Named). (named_tree program.now).declarations) keeps.program_is
