-- The steps of evaluation that are no recursion keep types: what is given has a type, and a fault is not Mistyped.
--
--   `result_up`                a result has each type that one of its types fits
--   `outcome_after_has`, `outcome_after_all_has`, `outcomes_after_have`    what follows a value, or values
--   `string_result_has`, `built_result_has`, `read_result_has`             a string, a constructor, what is read
--   `chosen_outcome_has`                                                   one of two branches
--   `logical_outcome_has`                                                  `&&` and `||` after their left operand
use Rattle.std.proofs.Common.{◌≡◌, ℕ, Bool, true, false, List, ◌∷◌, Option, Some, refl, length}
use Rattle.std.specs.Prelude.{nat_le}
use Rattle.std.proofs.lemmas.Bool.{cond_both}
use Rattle.abs_profile.specs.Accepted.{IsAcceptedProgram}
use Rattle.abs_tree.specs.Limits.{string_limit}
use Rattle.abs_tree.specs.Syntax.{ExprTree, ProgramTree}
use Rattle.abs_types.proofs.SubtypingLemmas.{fits_reflexive}
use Rattle.abs_types.specs.OperatorTypes.{bool_type}
use Rattle.abs_types.specs.PlainTypes.{PlainType, PlainString}
use Rattle.abs_types.specs.Subtyping.{fits}
use Rattle.abs_values.specs.Evaluation.{Outcome, Outcomes, ends_with, all_end_with, outcome_after, outcome_after_all, results_with, outcomes_after, read_result, chosen_outcome, logical_outcome}
use Rattle.abs_values.specs.Operations.{answer_result, truth_of}
use Rattle.abs_values.specs.Results.{Result, Gives, Fails, Results, AllGive, OneFails, string_result, built_result}
use Rattle.abs_values.specs.Scopes.{Scope, Location, value_at}
use Rattle.abs_values.specs.ValueTrees.{ValueTree, StringValue, BuiltValue, ValueTrees}
use Rattle.abs_values.specs.ValueTrees.{fits as fits_limits}
use Rattle.abs_values.specs.declared.evaluated.Fault.TheVariants as fault
use Rattle.type_sound.proofs.PreludeLemmas.{truth_has, truth_found}
use Rattle.type_sound.proofs.ValueLemmas.{value_up}
use Rattle.type_sound.specs.Values.{World, ValueHas, AllHave, ResultHas, ResultsHave}

module _ (program : ProgramTree) (world : World) where
  -- a result has each type that one of its types fits
  pub result_up : (result : Result) (one other : PlainType) → fits program.source.declarations one other ≡ true
      → ResultHas program world result one → ResultHas program world result other
  result_up (Gives value) one other reported has = value_up program world value one other reported has
  result_up (Fails cause) one other reported has = has

  -- what follows a value
  pub outcome_after_has : (found : Outcome) (next : ValueTree → ℕ → Outcome) (given asked : PlainType)
      → ResultHas program world found.result given
      → ((value : ValueTree) (made : ℕ) → ValueHas program world value given
      → ResultHas program world (next value made).result asked)
      → ResultHas program world (outcome_after found next).result asked
  outcome_after_has found next given asked has follows = by_result found.result has
    where
      by_result : (result : Result) → ResultHas program world result given
          → ResultHas program world (outcome_after (ends_with result found.applications) next).result asked
      by_result (Gives value) has = follows value found.applications has
      by_result (Fails cause) has = has

  -- what follows the values of a list
  pub outcome_after_all_has : (found : Outcomes) (next : List ValueTree → ℕ → Outcome) (given : List PlainType)
      (asked : PlainType) → ResultsHave program world found.results given
      → ((values : List ValueTree) (made : ℕ) → AllHave program world values given
      → ResultHas program world (next values made).result asked)
      → ResultHas program world (outcome_after_all found next).result asked
  outcome_after_all_has found next given asked have follows = by_results found.results have
    where
      by_results : (results : Results) → ResultsHave program world results given
          → ResultHas program world (outcome_after_all (all_end_with results found.applications) next).result asked
      by_results (AllGive values) have = follows values found.applications have
      by_results (OneFails cause) have = have

  -- a list after its first value
  pub outcomes_after_have : (found : Outcome) (next : ValueTree → ℕ → Outcomes) (given : PlainType)
      (asked : List PlainType) → ResultHas program world found.result given
      → ((value : ValueTree) (made : ℕ) → ValueHas program world value given
      → ResultsHave program world (next value made).results asked)
      → ResultsHave program world (outcomes_after found next).results asked
  outcomes_after_have found next given asked has follows = by_result found.result has
    where
      by_result : (result : Result) → ResultHas program world result given
          → ResultsHave program world (outcomes_after (ends_with result found.applications) next).results asked
      by_result (Gives value) has = follows value found.applications has
      by_result (Fails cause) has = has

  -- a value before the values of the rest
  pub results_with_have : (value : ValueTree) (results : Results) (type : PlainType) (types : List PlainType)
      → ValueHas program world value type → ResultsHave program world results types
      → ResultsHave program world (results_with value results) (type ∷ types)
  results_with_have value (AllGive values) type types has have = (has, have)
  results_with_have value (OneFails cause) type types has have = have

  -- a string within the limit
  pub string_result_has : (bytes : List ℕ) → ResultHas program world (string_result bytes) PlainString
  unfolding ValueHas
  string_result_has bytes =
      cond_both (nat_le (length bytes) string_limit) (Gives (StringValue bytes)) (Fails fault.Large)
      (λ result. ResultHas program world result PlainString)
      (λ _. fits_reflexive program.source.declarations PlainString) (λ _. (λ same. absurd cc))

  -- a constructor whose parts are within the limits
  pub built_result_has : (constructor : ℕ) (parts : ValueTrees) (type : PlainType)
      → ValueHas program world (BuiltValue constructor parts) type
      → ResultHas program world (built_result constructor parts) type
  built_result_has constructor parts type has = by_limits (fits_limits parts) refl
    where
      by_limits : (within : Bool) → fits_limits parts ≡ within
          → ResultHas program world (built_result constructor parts) type
      by_limits true is = rw is has
      by_limits false is = rw is (λ same. absurd cc)

  -- what is read at a location
  pub read_result_has : (scope : Scope) (location : Location) (value : ValueTree) (type : PlainType)
      → value_at scope location ≡ Some value → ValueHas program world value type
      → ResultHas program world (read_result scope (Some location)) type
  read_result_has scope location value type there has = rw there has

  -- one of two branches
  pub chosen_outcome_has : (give : ExprTree → ℕ → Outcome) (first second : ExprTree) (found : Option Bool)
      (answer : Bool) (made : ℕ) (type : PlainType) → found ≡ Some answer
      → ResultHas program world (give first made).result type → ResultHas program world (give second made).result type
      → ResultHas program world (chosen_outcome give first second found made).result type
  chosen_outcome_has give first second found true made type is one other = rw is one
  chosen_outcome_has give first second found false made type is one other = rw is other

  -- the answer of a value of type Bool
  answer_result_has : IsAcceptedProgram program → (value : ValueTree) → ValueHas program world value bool_type
      → ResultHas program world (answer_result program.names (truth_of program.names value)) bool_type
  answer_result_has accepted value has =
      let found = truth_found program world accepted value has in
      rw found.1 (truth_has program world accepted found.0)

  -- `&&` and `||` after their left operand
  pub logical_outcome_has : IsAcceptedProgram program → (give : ExprTree → ℕ → Outcome) (decides : Bool)
      (right : ExprTree) (left : ValueTree) (made : ℕ) → ValueHas program world left bool_type
      → ResultHas program world (give right made).result bool_type
      → ResultHas program world
      (logical_outcome program.names give decides right (truth_of program.names left) made).result bool_type
  logical_outcome_has accepted give decides right left made has other =
      let found = truth_found program world accepted left has in
      rw found.1 (by_answer decides found.0)
    where
      evaluated : ResultHas program world
          (outcome_after (give right made) (λ value now. ends_with (answer_result program.names
          (truth_of program.names value)) now)).result bool_type
      evaluated =
          outcome_after_has (give right made) _ bool_type bool_type other
          (λ value now right_has. answer_result_has accepted value right_has)

      by_answer : (decides answer : Bool)
          → ResultHas program world (logical_outcome program.names give decides right (Some answer) made).result bool_type
      by_answer true true = truth_has program world accepted true
      by_answer false false = truth_has program world accepted false
      by_answer true false = evaluated
      by_answer false true = evaluated
