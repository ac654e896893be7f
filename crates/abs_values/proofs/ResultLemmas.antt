-- What holds of the value that evaluation gives, if it gives one, and how that follows through the steps of evaluation
-- that are no recursion. So a fact of all values is proved form by form, without a word on faults.
--
--   `IfGives`, `IfAllGive`             a fact of the value, or of all values, if there is no fault
--   `IfGives-at`, `IfAllGive-at`       the fact at a value that is given
--   `IfGives-then`, `IfAllGive-then`   the fact from a stronger one
--   `IfAllGive-all`                    the fact from one of every list that may be given
--   `outcome_after-gives`, ..          the fact of an outcome, from that of the step that gives its value
use Rattle.std.proofs.Common.{◌≡◌, ℕ, Bool, true, false, List, ◌∷◌, Option, Some, None, refl, subst, length}
use Rattle.std.specs.Prelude.{⊤, nat_le}
use Rattle.std.proofs.lemmas.Bool.{cond_both}
use Rattle.abs_values.specs.Evaluation.{Outcome, Outcomes, ends_with, all_end_with, outcome_after, outcome_after_all, results_with, outcomes_after, read_result, chosen_outcome}
use Rattle.abs_tree.specs.Limits.{string_limit}
use Rattle.abs_values.specs.Results.{Result, Gives, Fails, Results, AllGive, OneFails, string_result, built_result}
use Rattle.abs_values.specs.Scopes.{Scope, Location, value_at}
use Rattle.abs_tree.specs.Syntax.{ExprTree}
use Rattle.abs_values.specs.ValueTrees.{ValueTree, StringValue, BuiltValue, ValueTrees, fits}
use Rattle.abs_values.specs.declared.evaluated.Fault.TheVariants as fault

-- the fact holds of the value, if there is one
abbrev pub IfGives : Result → (ValueTree → Type 0) → Type 0
IfGives (Gives value) Holds = Holds value
IfGives (Fails cause) Holds = ⊤

-- the fact holds of the values, if there is no fault
abbrev pub IfAllGive : Results → (List ValueTree → Type 0) → Type 0
IfAllGive (AllGive values) Holds = Holds values
IfAllGive (OneFails cause) Holds = ⊤

-- what holds if there is a value holds of the value that is given
pub IfGives-at : (result : Result) (Holds : ValueTree → Type 0) (value : ValueTree) → result ≡ Gives value
    → IfGives result Holds → Holds value
IfGives-at result Holds value gives holds = subst (λ (given : Result). IfGives given Holds) gives holds

-- what holds if there is no fault holds of the values that are given
pub IfAllGive-at : (results : Results) (Holds : List ValueTree → Type 0) (values : List ValueTree)
    → results ≡ AllGive values → IfAllGive results Holds → Holds values
IfAllGive-at results Holds values gives holds = subst (λ (given : Results). IfAllGive given Holds) gives holds

-- what holds of each list of values that may be given holds if there is no fault
pub IfAllGive-all : (results : Results) (Holds : List ValueTree → Type 0)
    → ((values : List ValueTree) → results ≡ AllGive values → Holds values) → IfAllGive results Holds
IfAllGive-all (AllGive values) Holds each = each values refl
IfAllGive-all (OneFails cause) Holds each = tt

-- what follows from a fact that holds of the value holds of it too
pub IfGives-then : (result : Result) (Holds Follows : ValueTree → Type 0)
    → ((value : ValueTree) → Holds value → Follows value) → IfGives result Holds → IfGives result Follows
IfGives-then (Gives value) Holds Follows then holds = then value holds
IfGives-then (Fails cause) Holds Follows then holds = tt

-- the same of a list of values
pub IfAllGive-then : (results : Results) (Holds Follows : List ValueTree → Type 0)
    → ((values : List ValueTree) → Holds values → Follows values) → IfAllGive results Holds → IfAllGive results Follows
IfAllGive-then (AllGive values) Holds Follows then holds = then values holds
IfAllGive-then (OneFails cause) Holds Follows then holds = tt

-- after a value: what holds after each value that the first step gives
pub outcome_after-gives : (found : Outcome) (next : ValueTree → ℕ → Outcome) (Holds : ValueTree → Type 0)
    → ((value : ValueTree) → found.result ≡ Gives value → IfGives (next value found.applications).result Holds)
    → IfGives (outcome_after found next).result Holds
outcome_after-gives found next Holds each = by_result found.result each
  where
    by_result : (result : Result)
        → ((value : ValueTree) → result ≡ Gives value → IfGives (next value found.applications).result Holds)
        → IfGives (outcome_after (ends_with result found.applications) next).result Holds
    by_result (Gives value) each = each value refl
    by_result (Fails cause) each = tt

-- after the values of a list
pub outcome_after_all-gives : (found : Outcomes) (next : List ValueTree → ℕ → Outcome) (Holds : ValueTree → Type 0)
    → ((values : List ValueTree) → found.results ≡ AllGive values
    → IfGives (next values found.applications).result Holds)
    → IfGives (outcome_after_all found next).result Holds
outcome_after_all-gives found next Holds each = by_results found.results each
  where
    by_results : (results : Results)
        → ((values : List ValueTree) → results ≡ AllGive values
        → IfGives (next values found.applications).result Holds)
        → IfGives (outcome_after_all (all_end_with results found.applications) next).result Holds
    by_results (AllGive values) each = each values refl
    by_results (OneFails cause) each = tt

-- a list after its first value
pub outcomes_after-gives : (found : Outcome) (next : ValueTree → ℕ → Outcomes) (Holds : List ValueTree → Type 0)
    → ((value : ValueTree) → found.result ≡ Gives value → IfAllGive (next value found.applications).results Holds)
    → IfAllGive (outcomes_after found next).results Holds
outcomes_after-gives found next Holds each = by_result found.result each
  where
    by_result : (result : Result)
        → ((value : ValueTree) → result ≡ Gives value → IfAllGive (next value found.applications).results Holds)
        → IfAllGive (outcomes_after (ends_with result found.applications) next).results Holds
    by_result (Gives value) each = each value refl
    by_result (Fails cause) each = tt

-- a value before the values of the rest
pub results_with-gives : (value : ValueTree) (results : Results) (Holds : List ValueTree → Type 0)
    → IfAllGive results (λ values. Holds (value ∷ values)) → IfAllGive (results_with value results) Holds
results_with-gives value (AllGive values) Holds holds = holds
results_with-gives value (OneFails cause) Holds holds = tt

-- a string within the limit
pub string_result-gives : (bytes : List ℕ) (Holds : ValueTree → Type 0) → Holds (StringValue bytes)
    → IfGives (string_result bytes) Holds
string_result-gives bytes Holds holds =
    cond_both (nat_le (length bytes) string_limit) (Gives (StringValue bytes)) (Fails fault.Large)
    (λ result. IfGives result Holds) (λ _. holds) (λ _. tt)

-- a constructor whose parts are within the limits
pub built_result-gives : (constructor : ℕ) (parts : ValueTrees) (Holds : ValueTree → Type 0)
    → Holds (BuiltValue constructor parts) → IfGives (built_result constructor parts) Holds
built_result-gives constructor parts Holds holds = by_fit (fits parts) refl
  where
    by_fit : (fit : Bool) → fits parts ≡ fit → IfGives (built_result constructor parts) Holds
    by_fit true is = rw is holds
    by_fit false is = rw is tt

-- what is read at a location
pub read_result-gives : (scope : Scope) (location : Location) (Holds : ValueTree → Type 0)
    → ((value : ValueTree) → value_at scope location ≡ Some value → Holds value)
    → IfGives (read_result scope (Some location)) Holds
read_result-gives scope location Holds each = by_value (value_at scope location) refl
  where
    by_value : (found : Option ValueTree) → value_at scope location ≡ found
        → IfGives (read_result scope (Some location)) Holds
    by_value (Some value) is = rw is (each value is)
    by_value None is = rw is tt

-- one of two branches
pub chosen_outcome-gives : (give : ExprTree → ℕ → Outcome) (first second : ExprTree) (answer : Option Bool) (made : ℕ)
    (Holds : ValueTree → Type 0) → IfGives (give first made).result Holds → IfGives (give second made).result Holds
    → IfGives (chosen_outcome give first second answer made).result Holds
chosen_outcome-gives give first second (Some true) made Holds one other = one
chosen_outcome-gives give first second (Some false) made Holds one other = other
chosen_outcome-gives give first second None made Holds one other = tt
