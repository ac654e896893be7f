-- What operators give holds no reference: they give numbers, strings and Bools.
--
--   `truth_value-none`, `answer_result-none`       the value of an answer
--   `prefix_result-none`, `operation_result-none`  what an operator before a value or between two values gives
--   `operand_outcome-none`                         the outcome of one operator, `&&` and `||` too
--   `operators_outcome-gives`                      a list of operators gives its first value, or one without references
use Rattle.std.proofs.Common.{ℕ, ℤ, Bool, true, false, not, List, ◌++◌, Option, Some, None, IfSome, int_eq, if◌then◌else◌}
use Rattle.std.proofs.lemmas.Bool.{cond_both}
use Rattle.std.specs.Prelude.{pos, neg_ℤ, ◌+ℤ◌, ◌-ℤ◌, ◌*ℤ◌, int_div, int_rem}
use Rattle.abs_values.proofs.InsideLemmas.{HoldsNone}
use Rattle.abs_values.proofs.ResultLemmas.{IfGives, IfGives-then, outcome_after-gives, string_result-gives}
use Rattle.abs_values.specs.Evaluation.{Outcome, outcome_after, logical_outcome, operand_outcome, operators_outcome}
use Rattle.abs_values.specs.Numbers.{is_128_bit, number_result, arithmetic_result, number_comparison}
use Rattle.abs_values.specs.Operations.{truth_value, truth_of, answer_result, opposite, negation_result, prefix_result, arithmetic_or_comparison, numbers_result, sum_result, operation_result}
use Rattle.abs_values.specs.References.{IsIn, IsInAny}
use Rattle.abs_values.specs.Results.{Result, Gives, Fails, string_result}
use Rattle.abs_tree.specs.Syntax.{Name, ExprTree, Operands, NoOperands, NextOperand}
use Rattle.abs_values.specs.ValueTrees.{ValueTree, IntValue, StringValue, same_value}
use Rattle.abs_values.specs.declared.evaluated.Fault.TheVariants as fault
use Rattle.abs_tree.specs.declared.syntax.expression.Operator.{Operator}
use Rattle.abs_tree.specs.declared.syntax.expression.Operator.TheVariants as operator
use Rattle.abs_tree.specs.declared.syntax.expression.Prefix.{Prefix}
use Rattle.abs_tree.specs.declared.syntax.expression.Prefix.TheVariants as prefix

-- the value of an answer holds no reference
pub truth_value-none : (names : List Name) (answer : Bool) → HoldsNone (truth_value names answer)
unfolding IsIn IsInAny
truth_value-none names true = λ reference inside. inside
truth_value-none names false = λ reference inside. inside

-- nor does the result for an answer
pub answer_result-none : (names : List Name) (answer : Option Bool) → IfGives (answer_result names answer) HoldsNone
answer_result-none names (Some answer) = truth_value-none names answer
answer_result-none names None = tt

-- the result for a number
number_result-none : (number : ℤ) → IfGives (number_result number) HoldsNone
unfolding IsIn
number_result-none number =
    cond_both (is_128_bit number) (Gives (IntValue number)) (Fails fault.Overflow) (λ result. IfGives result HoldsNone)
    (λ _. λ reference inside. inside) (λ _. tt)

-- the result for a string
string_result-none : (bytes : List ℕ) → IfGives (string_result bytes) HoldsNone
unfolding IsIn
string_result-none bytes = string_result-gives bytes HoldsNone (λ reference inside. inside)

-- the result for a quotient or a remainder, unless the divisor is 0
divided-none : (divisor number : ℤ)
    → IfGives (if int_eq divisor (pos 0) then Fails fault.Zero else number_result number) HoldsNone
divided-none divisor number =
    cond_both (int_eq divisor (pos 0)) (Fails fault.Zero) (number_result number) (λ result. IfGives result HoldsNone)
    (λ _. tt) (λ _. number_result-none number)

-- the result of arithmetic, if the operator has one
arithmetic_result-none : (operation : Operator) (left right : ℤ)
    → IfSome (arithmetic_result operation left right) (λ result. IfGives result HoldsNone)
arithmetic_result-none operator.Plus left right = number_result-none (left +ℤ right)
arithmetic_result-none operator.Minus left right = number_result-none (left -ℤ right)
arithmetic_result-none operator.Times left right = number_result-none (left *ℤ right)
arithmetic_result-none operator.Divide left right = divided-none right (int_div left right)
arithmetic_result-none operator.Remainder left right = divided-none right (int_rem left right)
arithmetic_result-none operation left right = tt

-- that of arithmetic or of a comparison
arithmetic_or_comparison-none : (names : List Name) (result : Option Result) (answer : Option Bool)
    → IfSome result (λ given. IfGives given HoldsNone)
    → IfGives (arithmetic_or_comparison names result answer) HoldsNone
arithmetic_or_comparison-none names (Some result) answer none = none
arithmetic_or_comparison-none names None answer none = answer_result-none names answer

-- an operator between two numbers
numbers_result-none : (names : List Name) (operation : Operator) (left right : ValueTree)
    → IfGives (numbers_result names operation left right) HoldsNone
numbers_result-none names operation (IntValue left) (IntValue right) =
    arithmetic_or_comparison-none names (arithmetic_result operation left right)
    (number_comparison operation left right) (arithmetic_result-none operation left right)
numbers_result-none names operation left right = tt

-- a sum
sum_result-none : (names : List Name) (left right : ValueTree) → IfGives (sum_result names left right) HoldsNone
sum_result-none names (StringValue left) (StringValue right) = string_result-none (left ++ right)
sum_result-none names left right = numbers_result-none names operator.Plus left right

-- what an operator between two values gives
pub operation_result-none : (names : List Name) (operation : Operator) (left right : ValueTree)
    → IfGives (operation_result names operation left right) HoldsNone
operation_result-none names operator.Equal left right = truth_value-none names (same_value left right)
operation_result-none names operator.NotEqual left right = truth_value-none names (not (same_value left right))
operation_result-none names operator.Plus left right = sum_result-none names left right
operation_result-none names operation left right = numbers_result-none names operation left right

-- what a minus before a value gives
negation_result-none : (value : ValueTree) → IfGives (negation_result value) HoldsNone
negation_result-none (IntValue number) = number_result-none (neg_ℤ number)
negation_result-none value = tt

-- what an operator before a value gives
pub prefix_result-none : (names : List Name) (operation : Prefix) (value : ValueTree)
    → IfGives (prefix_result names operation value) HoldsNone
prefix_result-none names prefix.Minus value = negation_result-none value
prefix_result-none names prefix.Not value = answer_result-none names (opposite (truth_of names value))
prefix_result-none names prefix.Tilde value = answer_result-none names (opposite (truth_of names value))

-- the outcome of `&&` or `||`, after the answer of its left operand
logical_outcome-none : (names : List Name) (give : ExprTree → ℕ → Outcome) (decides : Bool) (right : ExprTree)
    (answer : Option Bool) (made : ℕ) → IfGives (logical_outcome names give decides right answer made).result HoldsNone
logical_outcome-none names give true right (Some true) made = truth_value-none names true
logical_outcome-none names give false right (Some false) made = truth_value-none names false
logical_outcome-none names give true right (Some false) made =
    outcome_after-gives (give right made) _ HoldsNone (λ value gives. answer_result-none names (truth_of names value))
logical_outcome-none names give false right (Some true) made =
    outcome_after-gives (give right made) _ HoldsNone (λ value gives. answer_result-none names (truth_of names value))
logical_outcome-none names give decides right None made = tt

-- the outcome of one operator, after the value of its left side
pub operand_outcome-none : (names : List Name) (give : ExprTree → ℕ → Outcome) (operation : Operator) (right : ExprTree)
    (left : ValueTree) (made : ℕ) → IfGives (operand_outcome names give operation right left made).result HoldsNone
operand_outcome-none names give operator.And right left made =
    logical_outcome-none names give false right (truth_of names left) made
operand_outcome-none names give operator.Or right left made =
    logical_outcome-none names give true right (truth_of names left) made
operand_outcome-none names give operation right left made =
    outcome_after-gives (give right made) _ HoldsNone
    (λ value gives. operation_result-none names operation left value)

-- a list of operators gives its first value, or one without references
pub operators_outcome-gives : (names : List Name) (give : ExprTree → ℕ → Outcome) (left : Outcome) (operands : Operands)
    (Holds : ValueTree → Type 0) → ((value : ValueTree) → HoldsNone value → Holds value) → IfGives left.result Holds
    → IfGives (operators_outcome names give left operands).result Holds
operators_outcome-gives names give left NoOperands Holds none first = first
operators_outcome-gives names give left (NextOperand operation right others) Holds none first =
    operators_outcome-gives names give (outcome_after left (operand_outcome names give operation right)) others Holds
    none (outcome_after-gives left _ Holds (λ value gives.
    IfGives-then (operand_outcome names give operation right value left.applications).result HoldsNone Holds none
    (operand_outcome-none names give operation right value left.applications)))
