-- The outcomes of a list of expressions, of which the first ones have been evaluated.
--
--   `with_earlier`             outcomes after the values of the expressions before them
--   `earlier_step`, `earlier_end`, `earlier_stop`      one more value, no more expression, and a fault
--   `initial_step`, `initial_stop`                     the same of initial values
use Rattle.std.proofs.Common.{◌≡◌, ℕ, List, [], ◌∷◌, ◌++◌, refl, sym, ap, ◌∙◌, append_assoc, append-nil}
use Rattle.abs_values.specs.Evaluation.{Outcome, Outcomes, all_end_with, ends_with, evaluate, initial_outcomes, outcomes_of, results_with}
use Rattle.abs_tree.specs.Limits.{level_limit}
use Rattle.abs_values.specs.Results.{Gives, Results, AllGive, OneFails}
use Rattle.abs_values.specs.Scopes.{Library, own_scope}
use Rattle.abs_tree.specs.Syntax.{ExprTree, ExprTrees, NoExpr, NextExpr}
use Rattle.abs_values.specs.ValueTrees.{ValueTree}
use Rattle.fun_eval.specs.Evaluating.{AreStopped, IsStopped}
use Rattle.fun_eval.specs.declared.stop.Stop.{Stop}
use Rattle.fun_eval.specs.declared.stop.Stop.TheVariants as stop

-- results after the values of earlier expressions
abbrev pub values_before : List ValueTree → Results → Results
values_before earlier (AllGive values) = AllGive (earlier ++ values)
values_before earlier (OneFails cause) = OneFails cause

-- outcomes after them
abbrev pub with_earlier : List ValueTree → Outcomes → Outcomes
with_earlier earlier found = all_end_with (values_before earlier found.results) found.applications

-- no value before
no_values : (results : Results) → values_before [] results ≡ results
no_values (AllGive values) = refl
no_values (OneFails cause) = refl

pub earlier_begin : (found : Outcomes) → found ≡ with_earlier [] found
earlier_begin found = ap (λ (results : Results). all_end_with results found.applications) (sym (no_values found.results))

-- one more value before the results of the rest
more_values : (earlier : List ValueTree) (value : ValueTree) (results : Results) (made : ℕ)
    → with_earlier earlier (all_end_with (values_before (value ∷ []) results) made)
    ≡ all_end_with (values_before (earlier ++ value ∷ []) results) made
more_values earlier value (AllGive values) made =
    ap (λ (all : List ValueTree). all_end_with (AllGive all) made) (sym (append_assoc earlier (value ∷ []) values))
more_values earlier value (OneFails cause) made = refl

one_before : (value : ValueTree) (results : Results)
    → results_with value results ≡ values_before (value ∷ []) results
one_before value (AllGive values) = refl
one_before value (OneFails cause) = refl

-- one more value
first_value : (give : ExprTree → ℕ → Outcome) (first : ExprTree) (others : ExprTrees) (value : ValueTree) (made now : ℕ)
    → give first made ≡ ends_with (Gives value) now
    → outcomes_of give (NextExpr first others) made ≡ with_earlier (value ∷ []) (outcomes_of give others now)
first_value give first others value made now is =
    rw is
    (ap (λ (results : Results). all_end_with results (outcomes_of give others now).applications)
    (one_before value (outcomes_of give others now).results))

pub earlier_step : (give : ExprTree → ℕ → Outcome) (earlier : List ValueTree) (first : ExprTree) (others : ExprTrees)
    (value : ValueTree) (made now : ℕ) → give first made ≡ ends_with (Gives value) now
    → with_earlier earlier (outcomes_of give (NextExpr first others) made)
    ≡ with_earlier (earlier ++ value ∷ []) (outcomes_of give others now)
earlier_step give earlier first others value made now is =
    ap (with_earlier earlier) (first_value give first others value made now is)
    ∙ more_values earlier value (outcomes_of give others now).results (outcomes_of give others now).applications

-- no more expression
pub earlier_end : (give : ExprTree → ℕ → Outcome) (earlier : List ValueTree) (made : ℕ)
    → with_earlier earlier (outcomes_of give NoExpr made) ≡ all_end_with (AllGive earlier) made
earlier_end give earlier made =
    ap (λ (all : List ValueTree). all_end_with (AllGive all) made) (append-nil earlier)

-- a fault
pub earlier_stop : (give : ExprTree → ℕ → Outcome) (earlier : List ValueTree) (first : ExprTree) (others : ExprTrees)
    (made : ℕ) (cause : Stop) → IsStopped (give first made).result cause
    → AreStopped (with_earlier earlier (outcomes_of give (NextExpr first others) made)).results cause
earlier_stop give earlier first others made (stop.Fault cause) is = rw is refl
earlier_stop give earlier first others made stop.Memory is = tt

-- an initial value
pub initial_step : (library : Library) (values : List ValueTree) (first : ExprTree) (others : ExprTrees) (value : ValueTree)
    (made now : ℕ) → evaluate library (own_scope values) level_limit first made ≡ ends_with (Gives value) now
    → initial_outcomes library (NextExpr first others) values made
    ≡ initial_outcomes library others (values ++ value ∷ []) now
unfolding initial_outcomes
initial_step library values first others value made now is = rw is refl

pub initial_stop : (library : Library) (values : List ValueTree) (first : ExprTree) (others : ExprTrees) (made : ℕ)
    (cause : Stop) → IsStopped (evaluate library (own_scope values) level_limit first made).result cause
    → AreStopped (initial_outcomes library (NextExpr first others) values made).results cause
unfolding initial_outcomes
initial_stop library values first others made (stop.Fault cause) is = rw is refl
initial_stop library values first others made stop.Memory is = tt
