-- What the expressions of a statement give, and what holds while the initial values of a new object are evaluated.
--
--   `statement_scope`, ..      what they read
--   `first_outcome`, ..        the outcomes of a statement's own expressions
--   `InitialsSoFar`            the initial values that are left follow the values so far
--   `initials_step`, ..        after one more value, at a fault, and at the end
use Rattle.std.proofs.Common.{◌≡◌, ℕ, ◌+◌, ◌<◌, ◌≤◌, List, [], ◌∷◌, ◌++◌, drop, get_or, length, map, refl, sym, ap, ◌∙◌, subst}
use Rattle.abs_values.specs.Evaluation.{Outcome, Outcomes, all_end_with, all_outcomes, ends_with, evaluate, initial_outcomes, outcomes_of, results_of}
use Rattle.std.specs.declared.alloc.Global.{Global}
use Rattle.std.specs.declared.sync.Arc.{Arc}
use Rattle.abs_program.specs.InstructionViews.{shared_expr_trees}
use Rattle.abs_tree.specs.Limits.{level_limit}
use Rattle.abs_values.specs.Results.{AllGive, Gives, Results}
use Rattle.abs_values.specs.Scopes.{Library, Scope as ScopeTree, library_of, own_scope}
use Rattle.abs_program.specs.NamedViews.{program_tree}
use Rattle.abs_tree.specs.Syntax.{Name, ExprTrees, NextExpr}
use Rattle.abs_tree.specs.SyntaxViews.{expr_tree}
use Rattle.abs_values.specs.ValueTrees.{ValueTree}
use Rattle.abs_values.specs.ValueViews.{value_tree}
use Rattle.abs_program.specs.declared.named.Named.{Named}
use Rattle.abs_tree.specs.declared.syntax.expression.Expr.{Expr}
use Rattle.abs_values.specs.declared.value.Value.{Value}
use Rattle.fun_eval.proofs.ListLemmas.{initial_step, initial_stop}
use Rattle.fun_eval.proofs.RowLemmas.{shared_at, shared_end}
use Rattle.fun_eval.proofs.SoFarLemmas.{library_stays, names_stay, stays_further}
use Rattle.fun_eval.proofs.StackLemmas.{pushed}
use Rattle.fun_eval.specs.Evaluating.{bound_in, gives_in, library_in, names_in, outcome_in, evaluator_scope, AreStopped, IsStopped, Stays}
use Rattle.fun_eval.specs.Reading.{scope_tree}
use Rattle.fun_eval.specs.declared.evaluator.Evaluator.{Evaluator}
use Rattle.fun_eval.specs.declared.scope.Frame.TheVariants as frame
use Rattle.fun_eval.specs.declared.scope.Scope.{Scope}
use Rattle.fun_eval.specs.declared.stop.Stop.{Stop}
use Rattle.fun_eval.specs.declared.stop.Stop.TheVariants as stop

-- what a statement reads, where no variable is bound
pub statement_scope : (scope : Scope) (evaluator : Evaluator) → bound_in evaluator ≡ []
    → evaluator_scope (frame.Statement scope) evaluator ≡ scope_tree scope
statement_scope scope evaluator none = rw none refl

-- the outcome of a statement's own expression, and those of all its own expressions
pub first_outcome : (scope : Scope) (evaluator : Evaluator) (program : Named) (expr : Expr)
    → evaluator.library.program.now ≡ program → bound_in evaluator ≡ [] → evaluator.applications ≡ 0
    → outcome_in evaluator (frame.Statement scope) level_limit (expr_tree (names_in evaluator) expr)
    ≡ evaluate (library_of (program_tree program)) (scope_tree scope) level_limit (expr_tree program.symbols expr) 0
first_outcome scope evaluator program expr same none zero =
    ap (λ (read : ScopeTree). evaluate (library_in evaluator) read level_limit (expr_tree (names_in evaluator) expr)
    evaluator.applications) (statement_scope scope evaluator none)
    ∙ (ap (λ (known : Named). evaluate (library_of (program_tree known)) (scope_tree scope) level_limit
    (expr_tree known.symbols expr) evaluator.applications) same
    ∙ ap (evaluate (library_of (program_tree program)) (scope_tree scope) level_limit (expr_tree program.symbols expr)) zero)

pub own_outcomes : (scope : Scope) (evaluator : Evaluator) (trees : ExprTrees) → bound_in evaluator ≡ []
    → evaluator.applications ≡ 0
    → outcomes_of (gives_in evaluator (frame.Statement scope) level_limit) trees evaluator.applications
    ≡ outcomes_of (evaluate (library_in evaluator) (scope_tree scope) level_limit) trees 0
own_outcomes scope evaluator trees none zero =
    ap (λ (read : ScopeTree). outcomes_of (evaluate (library_in evaluator) read level_limit) trees
    evaluator.applications) (statement_scope scope evaluator none)
    ∙ ap (outcomes_of (evaluate (library_in evaluator) (scope_tree scope) level_limit) trees) zero

-- the results of a statement whose own expressions give these values
pub own_values : (library : Library) (scope : ScopeTree) (exprs inits : ExprTrees) (values : List ValueTree) (made : ℕ)
    → outcomes_of (evaluate library scope level_limit) exprs 0 ≡ all_end_with (AllGive values) made
    → results_of library scope exprs inits ≡ (initial_outcomes library inits values made).results
own_values library scope exprs inits values made is = rw (results_of, all_outcomes, is) refl

pub own_stopped : (library : Library) (scope : ScopeTree) (exprs inits : ExprTrees) (cause : Stop)
    → AreStopped (outcomes_of (evaluate library scope level_limit) exprs 0).results cause
    → AreStopped (results_of library scope exprs inits) cause
own_stopped library scope exprs inits (stop.Fault cause) is = rw (results_of, all_outcomes, is) refl
own_stopped library scope exprs inits stop.Memory is = tt

-- The initial values that are left follow the values so far.
pub record InitialsSoFar (expected : Results) (values : List Value) (inits : List (Arc Expr Global)) (before now : Evaluator)
    : Type 0 where
  pub stays : Stays before now
  pub is : expected ≡ (initial_outcomes (library_in before) (shared_expr_trees (names_in before) inits) (map value_tree values)
      now.applications).results

-- the outcome of an initial value
abbrev pub initial_in : Evaluator → List Value → Expr → Outcome
initial_in evaluator values item = evaluate (library_in evaluator) (own_scope (map value_tree values)) level_limit
    (expr_tree (names_in evaluator) item) evaluator.applications

-- the code evaluates it in that scope
pub initial_outcome : (scope : Scope) (evaluator : Evaluator) (values now : List Value) (expr item : Expr)
    → scope_tree scope ≡ own_scope (map value_tree now) → now ≡ values → item ≡ expr → bound_in evaluator ≡ []
    → initial_in evaluator values expr
    ≡ outcome_in evaluator (frame.Statement scope) level_limit (expr_tree (names_in evaluator) item)
initial_outcome scope evaluator values now expr item is same item_is none =
    ap (λ (read : ScopeTree). evaluate (library_in evaluator) read level_limit (expr_tree (names_in evaluator) expr)
    evaluator.applications)
    (sym (statement_scope scope evaluator none ∙ (is ∙ ap (λ (all : List Value). own_scope (map value_tree all)) same)))
    ∙ ap (λ (one : Expr). outcome_in evaluator (frame.Statement scope) level_limit (expr_tree (names_in evaluator) one))
    (sym item_is)

initial_stays : (before now : Evaluator) (values : List Value) (item : Expr) → now.library ≡ before.library
    → evaluate (library_in before) (own_scope (map value_tree values)) level_limit (expr_tree (names_in before) item)
    now.applications ≡ initial_in now values item
initial_stays before now values item library =
    ap (λ (known : Library). evaluate known (own_scope (map value_tree values)) level_limit
    (expr_tree (names_in before) item) now.applications) (sym (library_stays before now library))
    ∙ ap (λ (names : List Name). evaluate (library_in now) (own_scope (map value_tree values)) level_limit
    (expr_tree names item) now.applications) (sym (names_stay before now library))

-- the initial values that are left, by the first of them
initials_next : {expected : Results} {values : List Value} (inits : List (Arc Expr Global)) {before now : Evaluator} (index : ℕ)
    (item : Arc Expr Global) → index < length inits → item ≡ get_or inits index item
    → InitialsSoFar expected values (drop index inits) before now
    → expected ≡ (initial_outcomes (library_in before)
    (NextExpr (expr_tree (names_in before) item.value) (shared_expr_trees (names_in before) (drop (index + 1) inits)))
    (map value_tree values) now.applications).results
initials_next {expected} {values} inits {before} {now} index item there item_is found =
    found.is
    ∙ ap (λ (trees : ExprTrees). (initial_outcomes (library_in before) trees (map value_tree values)
    now.applications).results) (shared_at (names_in before) inits index item there item_is)

pub initials_step : {expected : Results} {values : List Value} (inits : List (Arc Expr Global))
    {before between : Evaluator} (index : ℕ) (item : Arc Expr Global) (value : Value) (added : List Value) (now : Evaluator) → index < length inits
    → item ≡ get_or inits index item → InitialsSoFar expected values (drop index inits) before between
    → Stays between now → initial_in between values item.value ≡ ends_with (Gives (value_tree value)) now.applications
    → added ≡ values ++ value ∷ [] → InitialsSoFar expected added (drop (index + 1) inits) before now
initials_step {expected} {values} inits {before} {between} index item value added now there item_is found stays is
    added_is = record {
      stays = stays_further found.stays stays;
      is =
          initials_next inits index item there item_is found
          ∙ (ap (λ (outcomes : Outcomes). outcomes.results)
          (initial_step (library_in before) (map value_tree values) (expr_tree (names_in before) item.value)
          (shared_expr_trees (names_in before) (drop (index + 1) inits)) (value_tree value) between.applications now.applications
          (initial_stays before between values item.value found.stays.library_is ∙ is))
          ∙ ap (λ (trees : List ValueTree). (initial_outcomes (library_in before)
          (shared_expr_trees (names_in before) (drop (index + 1) inits)) trees now.applications).results)
          (sym (pushed values added value added_is)));
    }

pub initials_stopped : {expected : Results} {values : List Value} (inits : List (Arc Expr Global))
    {before now : Evaluator} (index : ℕ) (item : Arc Expr Global) (cause : Stop) → index < length inits → item ≡ get_or inits index item
    → InitialsSoFar expected values (drop index inits) before now
    → IsStopped (initial_in now values item.value).result cause → AreStopped expected cause
initials_stopped {expected} {values} inits {before} {now} index item cause there item_is found is =
    subst (λ (results : Results). AreStopped results cause) (sym (initials_next inits index item there item_is found))
    (initial_stop (library_in before) (map value_tree values) (expr_tree (names_in before) item.value)
    (shared_expr_trees (names_in before) (drop (index + 1) inits)) now.applications cause
    (subst (λ (outcome : Outcome). IsStopped outcome.result cause)
    (sym (initial_stays before now values item.value found.stays.library_is)) is))

pub initials_end : {expected : Results} {values : List Value} (inits : List (Arc Expr Global)) {before now : Evaluator}
    (index : ℕ) → length inits ≤ index → InitialsSoFar expected values (drop index inits) before now
    → expected ≡ AllGive (map value_tree values)
unfolding initial_outcomes
initials_end {expected} {values} inits {before} {now} index past found =
    found.is
    ∙ ap (λ (trees : ExprTrees). (initial_outcomes (library_in before) trees (map value_tree values)
    now.applications).results) (shared_end (names_in before) inits index past)
