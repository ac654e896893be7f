-- Operators as relations, a constructor for each typing rule. An operand of the type of no value meets
-- each rule in which one type is asked for, since that type fits every other.
--
--   `is_arithmetic`, ..        operators with one rule
--   `OperatorGives`            the type of an operator between two operands
--   `PrefixGives`              that of an operator before an operand
use Rattle.std.specs.Prelude.{◌≡◌, Bool, true, false, List, Some}
use Rattle.abs_tree.specs.Syntax.{DeclTree}
use Rattle.abs_tree.specs.declared.syntax.expression.Operator.{Operator}
use Rattle.abs_tree.specs.declared.syntax.expression.Operator.TheVariants as operator
use Rattle.abs_tree.specs.declared.syntax.expression.Prefix.{Prefix}
use Rattle.abs_tree.specs.declared.syntax.expression.Prefix.TheVariants as prefix
use Rattle.abs_types.specs.Joins.{join_of}
use Rattle.abs_types.specs.OperatorTypes.{bool_type}
use Rattle.abs_types.specs.PlainTypes.{PlainType, PlainInt, PlainString, PlainBottom}
use Rattle.abs_types.specs.Subtyping.{Fits}

-- `-`, `*`, `/` and `%`
abbrev pub is_arithmetic : Operator → Bool
is_arithmetic operator.Minus = true
is_arithmetic operator.Times = true
is_arithmetic operator.Divide = true
is_arithmetic operator.Remainder = true
is_arithmetic _ = false

-- `<`, `<=`, `>` and `>=`
abbrev pub is_comparison : Operator → Bool
is_comparison operator.Less = true
is_comparison operator.LessEqual = true
is_comparison operator.Greater = true
is_comparison operator.GreaterEqual = true
is_comparison _ = false

-- `==` and `!=`
abbrev pub is_equality : Operator → Bool
is_equality operator.Equal = true
is_equality operator.NotEqual = true
is_equality _ = false

-- `&&` and `||`
abbrev pub is_logical : Operator → Bool
is_logical operator.And = true
is_logical operator.Or = true
is_logical _ = false

-- An operator between operands of two types gives a third one.
pub data OperatorGives (declarations : List DeclTree) : Operator → PlainType → PlainType → PlainType → Type 0 where
  numbers : OperatorGives declarations operator.Plus PlainInt PlainInt PlainInt
  strings : OperatorGives declarations operator.Plus PlainString PlainString PlainString
  bottom_number : OperatorGives declarations operator.Plus PlainBottom PlainInt PlainInt
  bottom_string : OperatorGives declarations operator.Plus PlainBottom PlainString PlainString
  number_bottom : OperatorGives declarations operator.Plus PlainInt PlainBottom PlainInt
  string_bottom : OperatorGives declarations operator.Plus PlainString PlainBottom PlainString
  bottoms : OperatorGives declarations operator.Plus PlainBottom PlainBottom PlainBottom
  arithmetic : (op : Operator) (left right : PlainType) → is_arithmetic op ≡ true → Fits declarations left PlainInt
      → Fits declarations right PlainInt → OperatorGives declarations op left right PlainInt
  comparison : (op : Operator) (left right : PlainType) → is_comparison op ≡ true → Fits declarations left PlainInt
      → Fits declarations right PlainInt → OperatorGives declarations op left right bool_type
  equality : (op : Operator) (left right joined : PlainType) → is_equality op ≡ true
      → join_of declarations left right ≡ Some joined → OperatorGives declarations op left right bool_type
  logical : (op : Operator) (left right : PlainType) → is_logical op ≡ true → Fits declarations left bool_type
      → Fits declarations right bool_type → OperatorGives declarations op left right bool_type

-- An operator before an operand of a type gives another one.
pub data PrefixGives (declarations : List DeclTree) : Prefix → PlainType → PlainType → Type 0 where
  negated : (operand : PlainType) → Fits declarations operand bool_type
      → PrefixGives declarations prefix.Not operand bool_type
  tilde : (operand : PlainType) → Fits declarations operand bool_type
      → PrefixGives declarations prefix.Tilde operand bool_type
  minus : (operand : PlainType) → Fits declarations operand PlainInt
      → PrefixGives declarations prefix.Minus operand PlainInt
