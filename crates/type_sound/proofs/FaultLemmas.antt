-- An event of a well-typed configuration of an accepted program does not fail with Mistyped.
--
--   `only_value`                   the value of a statement that has one has its type
--   `event_innermost`              what the innermost frame of a task that runs executes
--   `point_fits`                   the values of the next statement fit it
--   `fault_is_no_type_fault`       an event does not fail with Mistyped
use Rattle.std.proofs.Common.{◌≡◌, ℕ, List, [], ◌∷◌, Some, refl, ap, ◌∙◌, subst}
use Rattle.abs_program.specs.Control.{Point}
use Rattle.abs_program.specs.Instructions.{EffectTree, Awaits, effect_of}
use Rattle.abs_tree.specs.Syntax.{ProgramTree}
use Rattle.abs_types.specs.PlainTypes.{PlainType}
use Rattle.abs_values.specs.Results.{Fails, OneFails}
use Rattle.abs_values.specs.ValueTrees.{ValueTree}
use Rattle.abs_values.specs.declared.evaluated.Fault.{Fault}
use Rattle.abs_values.specs.declared.evaluated.Fault.TheVariants as fault
use Rattle.config_state.specs.Configurations.{Configuration}
use Rattle.step_rules.specs.Changes.{Change}
use Rattle.step_rules.specs.FaultCauses.{FaultOf, Evaluates, GetsFault, AwaitsFault, CallsNull, GetsNull, HasWrongSort}
use Rattle.step_rules.specs.Lookups.{Runner}
use Rattle.step_rules.specs.RuleParts.{IsRunner, IsRunningAt}
use Rattle.step_rules.specs.WaitRules.{Faulty}
use Rattle.type_sound.proofs.Events.{IsEvent}
use Rattle.type_sound.proofs.GuardFaultLemmas.{guard_has_no_type_fault}
use Rattle.type_sound.proofs.InnermostLemmas.{IsInnermost, innermost_is}
use Rattle.type_sound.proofs.NextLemmas.{values_fit, evaluates_typed}
use Rattle.type_sound.proofs.SortLemmas.{no_wrong_sort}
use Rattle.type_sound.specs.Fitting.{IsOneValue, ValuesFit}
use Rattle.type_sound.specs.Values.{World, ValueHas}
use Rattle.type_sound.specs.WellTyped.{world_of}

-- the value of a statement that has one has its type
pub only_value : (program : ProgramTree) (world : World) (value : ValueTree) (type : PlainType)
    → IsOneValue program world (value ∷ []) type → ValueHas program world value type
only_value program world value type one =
    let are = one.values_are in
    let same : one.value ≡ value = cc in
    subst (λ (held : ValueTree). ValueHas program world held type) same one.has

module _ (program : ProgramTree) (config : Configuration) (index : ℕ) (change : Change)
    (event : IsEvent program config index change) (at : Runner) where
  -- what the innermost frame executes
  pub event_innermost : IsRunner config at → IsInnermost program config at
  event_innermost runner = innermost_is program config at event.of_program event.typed runner

  -- the values of the next statement fit its effect
  pub point_fits : (own : IsInnermost program config at) (point : Point) (values : List ValueTree)
      (effect : EffectTree) → IsRunningAt program config at point values → effect_of point.statement ≡ effect
      → ValuesFit program (world_of program config) own.routine at.frame effect values
  point_fits own point values effect running is =
      subst (λ (one : EffectTree). ValuesFit program (world_of program config) own.routine at.frame one values) is
      (values_fit program config event.accepted event.formed event.of_program event.typed at own.routine point values
      own.there running)

  -- a fault of its event is not Mistyped
  fault_apart : (own : IsInnermost program config at) → IsRunner config at → (cause : Fault)
      → FaultOf program config at cause → cause ≡ fault.Mistyped → ⊥
  fault_apart own runner cause (Evaluates point there fails) is =
      evaluates_typed program config event.accepted event.formed event.of_program event.typed at own.routine point
      own.there runner there (fails ∙ ap OneFails is)
  fault_apart own runner cause (GetsFault point values slot target future task running effect holds there ended) is =
      (event.typed.tasks future task there).no_type_fault (ended ∙ ap (λ (one : Fault). Some (Fails one)) is)
  fault_apart own runner cause (AwaitsFault point values names running effect fails) is =
      guard_has_no_type_fault program config at.frame.slots names
      (point_fits own point values (Awaits names) running effect) (fails ∙ ap Faulty is)
  fault_apart own runner cause (CallsNull point arguments method target running effect null) is =
      absurd (cc (null, is))
  fault_apart own runner cause (GetsNull point values slot target running effect holds null) is =
      absurd (cc (null, is))
  fault_apart own runner cause (HasWrongSort point values effect running effect_is wrong mistyped) is =
      no_wrong_sort program config event.accepted event.of_program at own.routine own.there values effect
      (point_fits own point values effect running effect_is) wrong

-- An event of a well-typed configuration of an accepted program does not fail with Mistyped.
pub fault_is_no_type_fault : (program : ProgramTree) (config : Configuration) (index : ℕ) (change : Change)
    → IsEvent program config index change → (at : Runner) → at.index ≡ index → IsRunner config at
    → FaultOf program config at fault.Mistyped → ⊥
fault_is_no_type_fault program config index change event at same runner fails =
    fault_apart program config index change event at
    (event_innermost program config index change event at runner) runner fault.Mistyped fails refl
