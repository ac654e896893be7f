-- Initial values of fields that fit the types of the fields.
--
--   `InitialsFit`              initial values fit types, each after the values of the types before it
use Rattle.std.specs.Prelude.{⊤, List, [], ◌∷◌, ◌++◌}
use Rattle.abs_tree.specs.Syntax.{DeclTree, ExprTrees, NoExpr, NextExpr}
use Rattle.abs_types.specs.PlainTypes.{PlainType}
use Rattle.abs_types.specs.TypedProgram.{FitsType}
use Rattle.abs_types.specs.TypeOffences.{value_frame}

-- initial values fit types, where variables of the types `known` are visible; the value of a field is one for those
-- after it
abbrev pub InitialsFit : List DeclTree → List PlainType → ExprTrees → List PlainType → Type 0
InitialsFit declarations known NoExpr [] = ⊤
InitialsFit declarations known NoExpr (type ∷ types) = ⊥
InitialsFit declarations known (NextExpr first others) [] = ⊥
InitialsFit declarations known (NextExpr first others) (type ∷ types) =
    FitsType declarations (value_frame known) first type
    × InitialsFit declarations (known ++ type ∷ []) others types
