-- The guard of an `await` whose parts are futures or null does not fail with Mistyped.
--
--   `future_named`                 the value of a slot that is named
--   `guard_has_no_type_fault`      the guard does not fail with Mistyped
use Rattle.std.proofs.Common.{◌≡◌, ◌≢◌, ◌⊎◌, inl, inr, ⊎_elim, ℕ, suc, List, [], ◌∷◌, Option, Some, None, refl, sym, ap, ◌∙◌}
use Rattle.std.specs.Prelude.{slice_get}
use Rattle.abs_tree.specs.Syntax.{ProgramTree}
use Rattle.abs_types.specs.PlainTypes.{PlainType}
use Rattle.abs_values.specs.Results.{Result}
use Rattle.abs_values.specs.ValueTrees.{ValueTree, NullValue}
use Rattle.abs_values.specs.declared.evaluated.Fault.{Fault}
use Rattle.abs_values.specs.declared.evaluated.Fault.TheVariants as fault
use Rattle.config_state.specs.Configurations.{Configuration, Each}
use Rattle.step_rules.specs.Lookups.{named_value}
use Rattle.step_rules.specs.WaitRules.{Guard, Faulty, Unresolved, Resolved, guard_by_outcome, guard_by_task, guard_by_value, guard_before, guard_of}
use Rattle.type_sound.proofs.FoundValueLemmas.{IsFoundFuture, future_found, result_in_world}
use Rattle.type_sound.specs.Fitting.{HoldsFuture}
use Rattle.type_sound.specs.WellTyped.{world_of}

-- a named slot that holds a future of a type has this value
pub future_named : (slots : List ValueTree) (name : Option ℕ) (slot : ℕ) (value : ValueTree) → name ≡ Some slot
    → slice_get slots slot ≡ Some value → named_value slots name ≡ Some value
future_named slots name slot value name_is there = ap (named_value slots) name_is ∙ there

-- the result of a task is no fault of a guard
outcome_allows : (outcome : Option Result) (cause : Fault) → guard_by_outcome outcome ≢ Faulty cause
outcome_allows None cause is = absurd cc
outcome_allows (Some result) cause is = absurd cc

-- a part of a guard that is a future or null does not fail with Mistyped
part_allows : (program : ProgramTree) (config : Configuration) (slots : List ValueTree) (name : Option ℕ)
    (type : PlainType) → HoldsFuture program (world_of program config) slots name type
    → guard_by_value config (named_value slots name) ≢ Faulty fault.Mistyped
part_allows program config slots name type holds is =
    ⊎_elim by_null by_future (future_found program (world_of program config) holds.value type holds.has)
  where
    named : named_value slots name ≡ Some holds.value
    named = future_named slots name holds.slot holds.value holds.name_is holds.there

    by_null : holds.value ≡ NullValue → ⊥
    by_null null =
        let fails : guard_by_value config (named_value slots name) ≡ Faulty fault.Null =
        ap (guard_by_value config) (named ∙ ap Some null) in
        absurd (cc (fails, is))

    by_future : IsFoundFuture program (world_of program config) holds.value type → ⊥
    by_future found =
        let own = result_in_world program config found.task found.result found.there in
        outcome_allows own.0.outcome fault.Mistyped
        (ap guard_by_task (sym own.1) ∙ (ap (guard_by_value config) (sym (named ∙ ap Some found.value_is)) ∙ is))

-- the fault of a guard is that of a part of it
before_faulty : (part rest : Guard) (cause : Fault) → guard_before part rest ≡ Faulty cause
    → (part ≡ Faulty cause) ⊎ (rest ≡ Faulty cause)
before_faulty (Faulty own) rest cause is = inl is
before_faulty Unresolved (Faulty own) cause is = inr is
before_faulty Unresolved Unresolved cause is = absurd cc
before_faulty Unresolved Resolved cause is = absurd cc
before_faulty Resolved rest cause is = inr is

-- a guard whose parts are futures or null does not fail with Mistyped
pub guard_has_no_type_fault : (program : ProgramTree) (config : Configuration) (slots : List ValueTree)
    (names : List (Option ℕ))
    → Each names (λ index name. (type : PlainType) × HoldsFuture program (world_of program config) slots name type)
    → guard_of config slots names ≢ Faulty fault.Mistyped
guard_has_no_type_fault program config slots [] each is = absurd cc
guard_has_no_type_fault program config slots (name ∷ names) each is =
    ⊎_elim (part_allows program config slots name (each 0 name refl).0 (each 0 name refl).1)
    (guard_has_no_type_fault program config slots names (λ index. each (suc index)))
    (before_faulty (guard_by_value config (named_value slots name)) (guard_of config slots names) fault.Mistyped is)
