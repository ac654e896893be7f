-- Operators on values, and matching. True and False are constructors, so an operator that gives or asks for a Bool
-- needs the names of the program.
--
--   `truth_value`, `truth_of`          the value of an answer, and the answer that a value is, if it is a Bool
--   `prefix_result`                    the result of an operator before a value
--   `operation_result`                 the result of an operator between two values
--   `matched`, `all_matched`           what the variables of a pattern take from a value, if it matches
use Rattle.std.specs.Prelude.{neg_ℤ, nat_eq, Bool, true, false, not, List, [], ◌∷◌, ◌++◌, codes, Option, Some, None, if◌then◌else◌}
use Rattle.std.specs.Str.{bytes_eq}
use Rattle.std.specs.Ordering.{int_eq}
use Rattle.abs_tree.specs.Names.{number_of_name}
use Rattle.abs_values.specs.Numbers.{number_result, arithmetic_result, number_comparison}
use Rattle.abs_values.specs.Results.{Result, Gives, Fails, string_result}
use Rattle.abs_tree.specs.Syntax.{Name, PatternTree, AnyValue, Binds, SameNumber, SameString, Built, PatternTrees, NoPattern, NextPattern}
use Rattle.abs_values.specs.ValueTrees.{ValueTree, IntValue, StringValue, BuiltValue, ObjectValue, FutureValue, NullValue, ValueTrees, NoPart, NextPart, same_value}
use Rattle.abs_values.specs.declared.evaluated.Fault.TheVariants as fault
use Rattle.abs_tree.specs.declared.syntax.expression.Operator.{Operator}
use Rattle.abs_tree.specs.declared.syntax.expression.Operator.TheVariants as operator
use Rattle.abs_tree.specs.declared.syntax.expression.Prefix.{Prefix}
use Rattle.abs_tree.specs.declared.syntax.expression.Prefix.TheVariants as prefix

-- the value of an answer
abbrev pub truth_value : List Name → Bool → ValueTree
truth_value names true = BuiltValue (number_of_name names (codes "True")) NoPart
truth_value names false = BuiltValue (number_of_name names (codes "False")) NoPart

-- the answer that a value is; none, if it is no Bool
abbrev pub truth_of : List Name → ValueTree → Option Bool
truth_of names (BuiltValue constructor NoPart) =
    if nat_eq constructor (number_of_name names (codes "True")) then Some true
    else if nat_eq constructor (number_of_name names (codes "False")) then Some false
    else None
truth_of names (BuiltValue constructor (NextPart first others)) = None
truth_of names (IntValue number) = None
truth_of names (StringValue string) = None
truth_of names (ObjectValue object) = None
truth_of names (FutureValue task) = None
truth_of names NullValue = None

-- the result for an answer; without one it is the fault Mistyped
abbrev pub answer_result : List Name → Option Bool → Result
answer_result names (Some answer) = Gives (truth_value names answer)
answer_result names None = Fails fault.Mistyped

-- the opposite of an answer, if there is one
abbrev pub opposite : Option Bool → Option Bool
opposite (Some answer) = Some (not answer)
opposite None = None

-- a minus before a value
abbrev pub negation_result : ValueTree → Result
negation_result (IntValue number) = number_result (neg_ℤ number)
negation_result (StringValue string) = Fails fault.Mistyped
negation_result (BuiltValue constructor parts) = Fails fault.Mistyped
negation_result (ObjectValue object) = Fails fault.Mistyped
negation_result (FutureValue task) = Fails fault.Mistyped
negation_result NullValue = Fails fault.Mistyped

-- an operator before a value
abbrev pub prefix_result : List Name → Prefix → ValueTree → Result
prefix_result names prefix.Minus value = negation_result value
prefix_result names prefix.Not value = answer_result names (opposite (truth_of names value))
prefix_result names prefix.Tilde value = answer_result names (opposite (truth_of names value))

-- the result of arithmetic, or else of a comparison
abbrev pub arithmetic_or_comparison : List Name → Option Result → Option Bool → Result
arithmetic_or_comparison names (Some result) answer = result
arithmetic_or_comparison names None answer = answer_result names answer

-- an operator between two numbers, other than an equality
abbrev pub numbers_result : List Name → Operator → ValueTree → ValueTree → Result
numbers_result names operation (IntValue left) (IntValue right) =
    arithmetic_or_comparison names (arithmetic_result operation left right) (number_comparison operation left right)
numbers_result names operation left right = Fails fault.Mistyped

-- a sum of two strings or of two numbers
abbrev pub sum_result : List Name → ValueTree → ValueTree → Result
sum_result names (StringValue left) (StringValue right) = string_result (left ++ right)
sum_result names left right = numbers_result names operator.Plus left right

-- an operator between two values that both have to be evaluated. A value of a sort that the operator does not ask for
-- is the fault Mistyped; `==` and `!=` ask for none.
abbrev pub operation_result : List Name → Operator → ValueTree → ValueTree → Result
operation_result names operator.Equal left right = Gives (truth_value names (same_value left right))
operation_result names operator.NotEqual left right = Gives (truth_value names (not (same_value left right)))
operation_result names operator.Plus left right = sum_result names left right
operation_result names operation left right = numbers_result names operation left right

-- what the variables of two patterns take, if both match
abbrev pub both_matched : Option (List ValueTree) → Option (List ValueTree) → Option (List ValueTree)
both_matched (Some first) (Some others) = Some (first ++ others)
both_matched (Some first) None = None
both_matched None others = None

unfoldable mutual
  -- what the variables of a pattern take from a value, in their order; none, if it does not match
  pub matched : List Name → PatternTree → ValueTree → Option (List ValueTree)
  matched names (AnyValue place) value = Some []
  matched names (Binds place variable) value = Some (value ∷ [])
  matched names (SameNumber place number) (IntValue other) = if int_eq number other then Some [] else None
  matched names (SameString place string) (StringValue other) = if bytes_eq string other then Some [] else None
  matched names (Built place constructor patterns) (BuiltValue other parts) =
      if nat_eq (number_of_name names constructor) other then all_matched names patterns parts else None
  matched names pattern value = None

  pub all_matched : List Name → PatternTrees → ValueTrees → Option (List ValueTree)
  all_matched names NoPattern NoPart = Some []
  all_matched names (NextPattern first others) (NextPart value values) =
      both_matched (matched names first value) (all_matched names others values)
  all_matched names patterns values = None
