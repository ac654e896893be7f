-- How outcomes go on after a value, and stop after a fault.
--
--   `result_outcome`           a result without an application
--   `same_outcome`             an outcome that is the same
--   `after_value`, ..          after a value the next step is taken
--   `after_stop`, ..           after a fault nothing else is evaluated
--   `operators_stop`           so it is in an operator list
--   `other_operand`            an operator other than `&&` and `||` asks for both operands
use Rattle.std.proofs.Common.{◌≡◌, ℕ, List, refl, sym, subst}
use Rattle.std.proofs.lemmas.Result.{err_from_is_err_and}
use Rattle.std.specs.Prelude.{Result, Ok, Err}
use Rattle.std.specs.Result.{IsErrAnd}
use Rattle.abs_values.specs.Evaluation.{Outcome, Outcomes, ends_with, outcome_after, outcome_after_all, operand_outcome, operators_outcome, result_after}
use Rattle.abs_values.specs.Operations.{operation_result}
use Rattle.abs_values.specs.Results.{Result as ResultTree, Gives, AllGive}
use Rattle.abs_tree.specs.Syntax.{Name, ExprTree, Operands, NoOperands, NextOperand}
use Rattle.abs_values.specs.ValueTrees.{ValueTree}
use Rattle.abs_tree.specs.declared.syntax.expression.Operator.{Operator}
use Rattle.abs_tree.specs.declared.syntax.expression.Operator.TheVariants as operator
use Rattle.abs_values.specs.declared.value.Value.{Value}
use Rattle.fun_eval.specs.Evaluating.{AreStopped, IsOutcome, IsStopped}
use Rattle.fun_eval.specs.Reading.{IsResult}
use Rattle.fun_eval.specs.declared.evaluator.Evaluator.{Evaluator}
use Rattle.fun_eval.specs.declared.stop.Stop.{Stop}
use Rattle.fun_eval.specs.declared.stop.Stop.TheVariants as stop

-- a result without an application is the outcome of an evaluator that has made so many
pub result_outcome : (expected : ResultTree) (result : Result Value Stop) (made : ℕ) (now : Evaluator)
    → now.applications ≡ made → IsResult expected result → IsOutcome (ends_with expected made) result now
result_outcome expected (Ok value) made now same is = rw (is, same) refl
result_outcome expected (Err (stop.Fault cause)) made now same is = is
result_outcome expected (Err stop.Memory) made now same is = tt

-- an outcome that is the same
pub same_outcome : (expected found : Outcome) (result : Result Value Stop) (now : Evaluator) → expected ≡ found
    → IsOutcome found result now → IsOutcome expected result now
same_outcome expected found result now same is = subst (λ (one : Outcome). IsOutcome one result now) (sym same) is

-- the exit of a step that stops
pub stopped_outcome : (expected : Outcome) (result : Result Value Stop) (now : Evaluator) (cause : Stop)
    → IsStopped expected.result cause → IsErrAnd result (λ error. error ≡ cause) → IsOutcome expected result now
stopped_outcome expected result now cause is exits =
    let error = err_from_is_err_and result exits in
    rw error.1 (subst (IsStopped expected.result) (sym error.2) is)

-- after a value
pub after_value : (found : Outcome) (value : ValueTree) (made : ℕ) (next : ValueTree → ℕ → Outcome)
    → found ≡ ends_with (Gives value) made → outcome_after found next ≡ next value made
after_value found value made next is = rw is refl

pub after_values : (found : Outcomes) (values : List ValueTree) (made : ℕ) (next : List ValueTree → ℕ → Outcome)
    → found ≡ record { results = AllGive values; applications = made } → outcome_after_all found next ≡ next values made
after_values found values made next is = rw is refl

-- after a fault
pub after_stop : (found : Outcome) (cause : Stop) (next : ValueTree → ℕ → Outcome) → IsStopped found.result cause
    → IsStopped (outcome_after found next).result cause
after_stop found (stop.Fault cause) next is = rw is refl
after_stop found stop.Memory next is = tt

pub after_stops : (found : Outcomes) (cause : Stop) (next : List ValueTree → ℕ → Outcome)
    → AreStopped found.results cause → IsStopped (outcome_after_all found next).result cause
after_stops found (stop.Fault cause) next is = rw is refl
after_stops found stop.Memory next is = tt

-- in an operator list
pub operators_stop : (names : List Name) (give : ExprTree → ℕ → Outcome) (left : Outcome) (operands : Operands)
    (cause : Stop) → IsStopped left.result cause → IsStopped (operators_outcome names give left operands).result cause
operators_stop names give left NoOperands cause is = is
operators_stop names give left (NextOperand operation right others) cause is =
    operators_stop names give (outcome_after left (operand_outcome names give operation right)) others cause
    (after_stop left cause (operand_outcome names give operation right) is)

-- an operator other than `&&` and `||` asks for both operands
pub other_operand : (names : List Name) (give : ExprTree → ℕ → Outcome) (operation : Operator) (right : ExprTree)
    (left : ValueTree) (made : ℕ) → (operation ≡ operator.And → ⊥) → (operation ≡ operator.Or → ⊥)
    → operand_outcome names give operation right left made
    ≡ result_after (give right made) (operation_result names operation left)
other_operand names give operator.Or right left made and or = absurd (or refl)
other_operand names give operator.And right left made and or = absurd (and refl)
other_operand names give operator.Equal right left made and or = refl
other_operand names give operator.NotEqual right left made and or = refl
other_operand names give operator.Less right left made and or = refl
other_operand names give operator.LessEqual right left made and or = refl
other_operand names give operator.Greater right left made and or = refl
other_operand names give operator.GreaterEqual right left made and or = refl
other_operand names give operator.Plus right left made and or = refl
other_operand names give operator.Minus right left made and or = refl
other_operand names give operator.Times right left made and or = refl
other_operand names give operator.Divide right left made and or = refl
other_operand names give operator.Remainder right left made and or = refl
