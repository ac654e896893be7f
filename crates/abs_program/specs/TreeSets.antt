-- Trees are sets: an equation between two of them has one proof at most. It serves proofs only.
--
--   `types_set`, `patterns_set`, `exprs_set`       those of types, of patterns and of expressions
--   `IsControl-prop`                               there is one proof at most that a table is that of a program
--   `table_props`                                  what shows the same of all tables
use Rattle.std.proofs.Props.{props}
use Rattle.std.specs.Prelude.{List}
use Rattle.abs_program.specs.KeptControl.{IsControl}
use Rattle.abs_program.specs.KeptSpaces.{proper-prop}
use Rattle.abs_tree.specs.Syntax.{Name, TypeTree, TypeTree-set, PatternTree, PatternTree-set, ExprTrees, ExprTrees-set, SourceTree}
use Rattle.abs_program.specs.declared.tables.control.Control.{Control}

-- the trees of types are a set, since places, names and numbers are
types_set : IsSet TypeTree
types_set = TypeTree-set (Prim.hlevel props) (Prim.hlevel props) (Prim.hlevel props)

-- so are those of patterns
patterns_set : IsSet PatternTree
patterns_set = PatternTree-set (Prim.hlevel props) (Prim.hlevel props) (Prim.hlevel props) (Prim.hlevel props)

-- and those of expressions
exprs_set : IsSet ExprTrees
exprs_set =
    ExprTrees-set (Prim.hlevel props) types_set (Prim.hlevel props) (Prim.hlevel props) (Prim.hlevel props)
    (Prim.hlevel props) (Prim.hlevel props) patterns_set

-- there is one proof at most that a table is that of a program
pub IsControl-prop : (names : List Name) (source : SourceTree) (control : Control)
    → IsProp (IsControl names source control)
IsControl-prop names source control = Prim.hlevel (props, exprs_set)

-- what shows that there is one proof at most that tables are those of a program
pub ruleset table_props = (props, proper-prop, IsControl-prop)
