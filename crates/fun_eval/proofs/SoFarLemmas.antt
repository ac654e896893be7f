-- What holds while the operators of a list are evaluated.
--
--   `gives_stays`, ..          an evaluator whose stacks are as before
--   `OperatorsSoFar`           the operators that are left follow the value so far
--   `operators_begin`, ..      before the first operator, after one more, at a fault, and at the end
use Rattle.std.proofs.Common.{◌≡◌, ℕ, ◌+◌, ◌<◌, ◌≤◌, List, drop, get_or, length, refl, sym, ap, ◌∙◌, subst}
use Rattle.abs_values.specs.Evaluation.{Outcome, ends_with, evaluate, operand_outcome, operators_outcome}
use Rattle.abs_values.specs.Results.{Gives}
use Rattle.abs_values.specs.Scopes.{Library, Scope, library_of}
use Rattle.abs_program.specs.NamedViews.{program_tree}
use Rattle.abs_tree.specs.Syntax.{Name, ExprTree}
use Rattle.abs_tree.specs.SyntaxViews.{operand_trees, expr_tree}
use Rattle.abs_values.specs.ValueTrees.{ValueTree}
use Rattle.abs_values.specs.ValueViews.{value_tree}
use Rattle.abs_tree.specs.declared.syntax.expression.Operand.{Operand}
use Rattle.abs_values.specs.declared.value.Value.{Value}
use Rattle.fun_eval.proofs.FrameLemmas.{scope_stays}
use Rattle.fun_eval.proofs.OutcomeLemmas.{operators_stop}
use Rattle.fun_eval.proofs.RowLemmas.{operands_at, operands_end}
use Rattle.fun_eval.specs.Evaluating.{gives_in, library_in, names_in, outcome_in, evaluator_scope, IsStopped, Stays}
use Rattle.fun_eval.specs.declared.evaluator.Evaluator.{Evaluator}
use Rattle.fun_eval.specs.declared.library.Library.{Library as Program}
use Rattle.fun_eval.specs.declared.scope.Frame.{Frame}
use Rattle.fun_eval.specs.declared.stop.Stop.{Stop}

-- the same program has the same library and names
pub library_stays : (before now : Evaluator) → now.library ≡ before.library → library_in now ≡ library_in before
library_stays before now is = ap (λ (library : Program). library_of (program_tree library.program.now)) is

pub names_stay : (before now : Evaluator) → now.library ≡ before.library → names_in now ≡ names_in before
names_stay before now is = ap (λ (library : Program). library.program.now.symbols) is

-- with the same program and stacks as before, each expression gives what it gave
pub gives_stays : (within : Frame) (left : ℕ) {before now : Evaluator} → Stays before now
    → gives_in now within left ≡ gives_in before within left
gives_stays within left {before} {now} stays =
    ap (λ (library : Library). evaluate library (evaluator_scope within now) left) (library_stays before now stays.library_is)
    ∙ ap (λ (scope : Scope). evaluate (library_in before) scope left) (scope_stays within stays)

pub stays_same : (evaluator : Evaluator) → Stays evaluator evaluator
stays_same evaluator = record { library_is = refl; arguments_are = refl; bound_are = refl }

pub stays_further : {before between now : Evaluator} → Stays before between → Stays between now → Stays before now
stays_further one other = record {
  library_is = other.library_is ∙ one.library_is;
  arguments_are = other.arguments_are ∙ one.arguments_are;
  bound_are = other.bound_are ∙ one.bound_are;
}

-- The operators that are left follow the value so far.
pub record OperatorsSoFar (expected : Outcome) (within : Frame) (left : ℕ) (so_far : Value) (operands : List Operand)
    (before now : Evaluator) : Type 0 where
  pub stays : Stays before now
  pub is : expected ≡ operators_outcome (names_in before) (gives_in before within left)
      (ends_with (Gives (value_tree so_far)) now.applications) (operand_trees (names_in before) operands)

pub operators_begin : (within : Frame) (left : ℕ) (first : ExprTree) (so_far : Value) (operands : List Operand)
    (before now : Evaluator) → Stays before now
    → outcome_in before within left first ≡ ends_with (Gives (value_tree so_far)) now.applications
    → OperatorsSoFar (operators_outcome (names_in before) (gives_in before within left)
    (outcome_in before within left first) (operand_trees (names_in before) operands)) within left so_far operands before
    now
operators_begin within left first so_far operands before now stays is = record {
  stays = stays;
  is = ap (λ (found : Outcome). operators_outcome (names_in before) (gives_in before within left) found
      (operand_trees (names_in before) operands)) is;
}

-- the outcome of one operator is the same as before
operand_stays : (within : Frame) (left : ℕ) (item : Operand) (value : ValueTree) (made : ℕ) {before now : Evaluator}
    → Stays before now
    → operand_outcome (names_in now) (gives_in now within left) item.operator (expr_tree (names_in now) item.right) value made
    ≡ operand_outcome (names_in before) (gives_in before within left) item.operator (expr_tree (names_in before) item.right)
    value made
operand_stays within left item value made {before} {now} stays =
    ap (λ (names : List Name). operand_outcome names (gives_in now within left) item.operator (expr_tree names item.right)
    value made) (names_stay before now stays.library_is)
    ∙ ap (λ (give : ExprTree → ℕ → Outcome). operand_outcome (names_in before) give item.operator
    (expr_tree (names_in before) item.right) value made) (gives_stays within left stays)

-- the outcome of the operators that are left, by that of the first of them
operators_next : {expected : Outcome} {within : Frame} {left : ℕ} {so_far : Value} (operands : List Operand)
    {before now : Evaluator} (index : ℕ) (item : Operand) → index < length operands → item ≡ get_or operands index item
    → OperatorsSoFar expected within left so_far (drop index operands) before now
    → expected ≡ operators_outcome (names_in before) (gives_in before within left)
    (operand_outcome (names_in now) (gives_in now within left) item.operator (expr_tree (names_in now) item.right)
    (value_tree so_far) now.applications) (operand_trees (names_in before) (drop (index + 1) operands))
operators_next {expected} {within} {left} {so_far} operands {before} {now} index item there item_is found =
    found.is
    ∙ (ap (operators_outcome (names_in before) (gives_in before within left)
    (ends_with (Gives (value_tree so_far)) now.applications))
    (operands_at (names_in before) operands index item there item_is)
    ∙ ap (λ (outcome : Outcome). operators_outcome (names_in before) (gives_in before within left) outcome
    (operand_trees (names_in before) (drop (index + 1) operands)))
    (sym (operand_stays within left item (value_tree so_far) now.applications found.stays)))

pub operators_step : {expected : Outcome} {within : Frame} {left : ℕ} {so_far : Value} (operands : List Operand)
    {before between : Evaluator} (index : ℕ) (item : Operand) (value : Value) (now : Evaluator)
    → index < length operands → item ≡ get_or operands index item
    → OperatorsSoFar expected within left so_far (drop index operands) before between → Stays between now
    → operand_outcome (names_in between) (gives_in between within left) item.operator
    (expr_tree (names_in between) item.right) (value_tree so_far) between.applications
    ≡ ends_with (Gives (value_tree value)) now.applications
    → OperatorsSoFar expected within left value (drop (index + 1) operands) before now
operators_step {expected} {within} {left} {so_far} operands {before} {between} index item value now there item_is found
    stays is = record {
      stays = stays_further found.stays stays;
      is =
          operators_next operands index item there item_is found
          ∙ ap (λ (outcome : Outcome). operators_outcome (names_in before) (gives_in before within left) outcome
          (operand_trees (names_in before) (drop (index + 1) operands))) is;
    }

pub operators_stopped : {expected : Outcome} {within : Frame} {left : ℕ} {so_far : Value} (operands : List Operand)
    {before now : Evaluator} (index : ℕ) (item : Operand) (cause : Stop) → index < length operands
    → item ≡ get_or operands index item
    → OperatorsSoFar expected within left so_far (drop index operands) before now
    → IsStopped (operand_outcome (names_in now) (gives_in now within left) item.operator
    (expr_tree (names_in now) item.right) (value_tree so_far) now.applications).result cause
    → IsStopped expected.result cause
operators_stopped {expected} {within} {left} {so_far} operands {before} {now} index item cause there item_is found is =
    subst (λ (outcome : Outcome). IsStopped outcome.result cause) (sym (operators_next operands index item there item_is found))
    (operators_stop (names_in before) (gives_in before within left)
    (operand_outcome (names_in now) (gives_in now within left) item.operator (expr_tree (names_in now) item.right)
    (value_tree so_far) now.applications) (operand_trees (names_in before) (drop (index + 1) operands)) cause is)

pub operators_end : {expected : Outcome} {within : Frame} {left : ℕ} {so_far : Value} (operands : List Operand)
    {before now : Evaluator} (index : ℕ) → length operands ≤ index
    → OperatorsSoFar expected within left so_far (drop index operands) before now
    → expected ≡ ends_with (Gives (value_tree so_far)) now.applications
operators_end {expected} {within} {left} {so_far} operands {before} {now} index past found =
    found.is
    ∙ ap (operators_outcome (names_in before) (gives_in before within left)
    (ends_with (Gives (value_tree so_far)) now.applications)) (operands_end (names_in before) operands index past)
