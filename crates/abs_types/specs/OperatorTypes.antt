-- The types of operators, by those of their operands. An operand of the type of no value meets every rule in which one
-- type is asked for, since that type fits every other.
--
--   `bool_type`, `unit_type`       the types of the prelude that rules ask for
--   `plus_type`                    that of `+`
--   `operator_type`                that of each operator between two operands
--   `prefix_type`                  that of an operator before an operand
--   `operand_types`                that of operators of one precedence, each with its right operand, from the left
use Rattle.std.specs.Prelude.{Bool, ◌&&◌, List, [], ◌∷◌, codes, Option, Some, None, is_some, option_and_then, if◌then◌else◌}
use Rattle.abs_tree.specs.Syntax.{DeclTree}
use Rattle.abs_tree.specs.declared.syntax.expression.Operator.{Operator}
use Rattle.abs_tree.specs.declared.syntax.expression.Operator.TheVariants as operator
use Rattle.abs_tree.specs.declared.syntax.expression.Prefix.{Prefix}
use Rattle.abs_tree.specs.declared.syntax.expression.Prefix.TheVariants as prefix
use Rattle.abs_types.specs.Joins.{join_of}
use Rattle.abs_types.specs.PlainTypes.{PlainType, PlainInt, PlainString, PlainBottom, PlainData}
use Rattle.abs_types.specs.Subtyping.{fits}

-- the types of the prelude that rules ask for
abbrev pub bool_type : PlainType
bool_type = PlainData (codes "Bool")

abbrev pub unit_type : PlainType
unit_type = PlainData (codes "Unit")

-- a type, if there is reason for it
abbrev pub type_if : Bool → PlainType → Option PlainType
type_if reason type_of = if reason then Some type_of else None

-- two numbers give a number, and two strings a string; with an operand of the type of no value it is the type of the
-- other one
abbrev pub plus_type : PlainType → PlainType → Option PlainType
plus_type PlainInt PlainInt = Some PlainInt
plus_type PlainString PlainString = Some PlainString
plus_type PlainBottom PlainInt = Some PlainInt
plus_type PlainBottom PlainString = Some PlainString
plus_type PlainInt PlainBottom = Some PlainInt
plus_type PlainString PlainBottom = Some PlainString
plus_type PlainBottom PlainBottom = Some PlainBottom
plus_type left right = None

-- two operands of one type give another one
abbrev pub both_are : List DeclTree → PlainType → PlainType → PlainType → PlainType → Option PlainType
both_are declarations wanted given left right =
    type_if (fits declarations left wanted && fits declarations right wanted) given

-- two operands that have a join can be compared
abbrev pub equality_type : List DeclTree → PlainType → PlainType → Option PlainType
equality_type declarations left right = type_if (is_some (join_of declarations left right)) bool_type

-- the type of an operator between two operands
unfoldable pub operator_type : List DeclTree → Operator → PlainType → PlainType → Option PlainType
operator_type declarations operator.Plus left right = plus_type left right
operator_type declarations operator.Minus left right = both_are declarations PlainInt PlainInt left right
operator_type declarations operator.Times left right = both_are declarations PlainInt PlainInt left right
operator_type declarations operator.Divide left right = both_are declarations PlainInt PlainInt left right
operator_type declarations operator.Remainder left right = both_are declarations PlainInt PlainInt left right
operator_type declarations operator.Less left right = both_are declarations PlainInt bool_type left right
operator_type declarations operator.LessEqual left right = both_are declarations PlainInt bool_type left right
operator_type declarations operator.Greater left right = both_are declarations PlainInt bool_type left right
operator_type declarations operator.GreaterEqual left right = both_are declarations PlainInt bool_type left right
operator_type declarations operator.Equal left right = equality_type declarations left right
operator_type declarations operator.NotEqual left right = equality_type declarations left right
operator_type declarations operator.And left right = both_are declarations bool_type bool_type left right
operator_type declarations operator.Or left right = both_are declarations bool_type bool_type left right

-- the type of an operator before an operand
unfoldable pub prefix_type : List DeclTree → Prefix → PlainType → Option PlainType
prefix_type declarations prefix.Not operand = type_if (fits declarations operand bool_type) bool_type
prefix_type declarations prefix.Tilde operand = type_if (fits declarations operand bool_type) bool_type
prefix_type declarations prefix.Minus operand = type_if (fits declarations operand PlainInt) PlainInt

-- the type of operators of one precedence, each with its right operand: each takes what those before it give
abbrev pub operand_types : List DeclTree → PlainType → List (Operator × PlainType) → Option PlainType
operand_types declarations left [] = Some left
operand_types declarations left (one ∷ others) =
    option_and_then (λ given. operand_types declarations given others) (operator_type declarations one.0 left one.1)
