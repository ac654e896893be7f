-- Each rule of the table of events keeps types.
--
--   `rule_types`                   what each rule shows
use Rattle.std.proofs.Common.{◌≡◌, ◌≢◌, ℕ, Bool, true, List, [], ◌∷◌, Option, Some, None, refl, sym, ap, ◌∙◌, subst}
use Rattle.std.specs.Prelude.{slice_get}
use Rattle.std.proofs.lemmas.Option.{none-some}
use Rattle.abs_program.specs.Control.{Point}
use Rattle.abs_program.specs.Instructions.{EffectTree, Skips, Suspends, Awaits, Chooses, Returns, Prints, Clears, Stores, Gets, effect_of}
use Rattle.abs_tree.specs.Syntax.{VariableTree, ProgramTree}
use Rattle.abs_values.specs.Results.{Fails}
use Rattle.abs_values.specs.ValueTrees.{ValueTree, StringValue, NullValue}
use Rattle.abs_values.specs.declared.evaluated.Fault.{Fault}
use Rattle.config_state.specs.Configurations.{TaskState, Configuration}
use Rattle.config_state.specs.declared.frame.Target.TheVariants.{Nothing}
use Rattle.step_rules.specs.Changes.{Change, ended_change}
use Rattle.step_rules.specs.FaultCauses.{FaultOf}
use Rattle.step_rules.specs.Lookups.{Runner, successor}
use Rattle.step_rules.specs.ObjectRules.{goes_on}
use Rattle.step_rules.specs.RuleParts.{IsRunner, IsRunningAt}
use Rattle.step_rules.specs.Rules.{Rule, Taken, Faulted, Skipped, Stored, Cleared, Chosen, Printed, Made, Called, Pushed, Got, Passed, Released, Suspended, Gave, Popped}
use Rattle.step_rules.specs.Targets.{target_of}
use Rattle.step_rules.specs.WaitRules.{suspend_rule}
use Rattle.step_rules.specs.declared.kind.Did.{Did}
use Rattle.step_rules.specs.declared.kind.Did.TheVariants as did
use Rattle.type_sound.proofs.AdvanceLemmas.{plain_types, takes_after, task_goes, goes_types}
use Rattle.type_sound.proofs.CalledLemmas.{called_types, pushed_types}
use Rattle.type_sound.proofs.DeclaredTargetLemmas.{target_in_effect}
use Rattle.type_sound.proofs.EndLemmas.{ended_typed, state_typed}
use Rattle.type_sound.proofs.Events.{IsEvent}
use Rattle.type_sound.proofs.FaultLemmas.{only_value, event_innermost, fault_is_no_type_fault, point_fits}
use Rattle.type_sound.proofs.GrowthLemmas.{value_stays}
use Rattle.type_sound.proofs.KeptLemmas.{Types}
use Rattle.type_sound.proofs.MadeLemmas.{made_types}
use Rattle.type_sound.proofs.ReturnLemmas.{gave_types, popped_types, got_takes}
use Rattle.type_sound.specs.Fitting.{IsStored}
use Rattle.type_sound.specs.WellTyped.{world_of, target_type_in}

module _ (program : ProgramTree) (config : Configuration) (index : ℕ) (change : Change)
    (event : IsEvent program config index change) where
  -- a task that runs ends with a fault, which is not Mistyped
  faulted_types : (at : Runner) (cause : Fault) → at.index ≡ index → IsRunner config at
      → FaultOf program config at cause → change ≡ ended_change at.task (Fails cause)
      → Types program config index change
  faulted_types at cause same runner fails is =
      plain_types program config index change event
      (ended_typed program config index change event at.task
      (ap (slice_get config.tasks) (sym same) ∙ runner.there) (ap (λ (one : Change). one.task.frames) is)
      (Fails cause) (ap (λ (one : Change). one.task.outcome) is)
      (λ mistyped. fault_is_no_type_fault program config index change event at same runner
      (subst (FaultOf program config at) mistyped fails)))
      (ap (λ (one : Change). one.written) is) (ap (λ (one : Change). one.object) is)
      (ap (λ (one : Change). one.new) is)

  -- a task goes on, and no value goes anywhere
  passed_types : (at : Runner) → at.index ≡ index → (point : Point) (values : List ValueTree)
      → IsRunningAt program config at point values → (effect : EffectTree) → effect_of point.statement ≡ effect
      → target_in_effect effect ≡ Nothing → effect ≢ Returns → (answer : Bool) (lines : List (List ℕ)) (kind : Did)
      → change ≡ goes_on config index at.task Nothing NullValue (successor point.goes answer) at.frame at.others lines
      kind
      → Types program config index change
  passed_types at same point values running effect effect_is nowhere apart answer lines kind is =
      goes_types program config index change event at same point values running effect effect_is answer apart NullValue
      (λ asked asked_is. absurd (none-some asked (sym (ap (target_type_in
      (event_innermost program config index change event at running.runner).routine) nowhere) ∙ asked_is)))
      lines kind
      (is ∙ ap (λ target. goes_on config index at.task target NullValue (successor point.goes answer) at.frame at.others
      lines kind) (sym nowhere))

  -- a value is stored
  stored_types : (at : Runner) → at.index ≡ index → (point : Point) (target : Option VariableTree) (value : ValueTree)
      → IsRunningAt program config at point (value ∷ []) → effect_of point.statement ≡ Stores target
      → change ≡ goes_on config index at.task (target_of target) value (successor point.goes true) at.frame at.others []
      did.Went
      → Types program config index change
  stored_types at same point target value running effect is =
      goes_types program config index change event at same point (value ∷ []) running (Stores target) effect true
      (λ other. absurd cc) value
      (takes_after program config index change event at same point (value ∷ []) running target value fit.type fit.takes
      (value_stays program config index change event value fit.type
      (only_value program (world_of program config) value fit.type fit.one)))
      [] did.Went is
    where
      fit : IsStored program (world_of program config)
          (event_innermost program config index change event at running.runner).routine (value ∷ []) target
      fit = point_fits program config index change event at
          (event_innermost program config index change event at running.runner) point (value ∷ []) (Stores target)
          running effect

  -- a local without a value is null
  cleared_types : (at : Runner) → at.index ≡ index → (point : Point) (values : List ValueTree) (target : VariableTree)
      → IsRunningAt program config at point values → effect_of point.statement ≡ Clears target
      → change ≡ goes_on config index at.task (target_of (Some target)) NullValue (successor point.goes true) at.frame
      at.others [] did.Went
      → Types program config index change
  cleared_types at same point values target running effect is =
      goes_types program config index change event at same point values running (Clears target) effect true
      (λ other. absurd cc) NullValue
      (λ asked asked_is. value_stays program config index change event NullValue asked
      (point_fits program config index change event at
      (event_innermost program config index change event at running.runner) point values (Clears target) running effect
      asked asked_is))
      [] did.Went is

  -- a task is ready again
  suspended_types : (at : Runner) → at.index ≡ index → (point : Point) (values : List ValueTree)
      → IsRunningAt program config at point values → effect_of point.statement ≡ Suspends
      → change ≡ suspend_rule at (successor point.goes true) → Types program config index change
  suspended_types at same point values running effect is =
      plain_types program config index change event
      (task_goes program config index change event at same point values running Suspends effect true
      (λ other. absurd cc) NullValue (λ asked none. absurd (none-some asked none))
      (ap (λ (one : Change). one.task.frames) is)
      (ap (λ (one : Change). one.task.outcome) is ∙ running.runner.open_still))
      (ap (λ (one : Change). one.written) is) (ap (λ (one : Change). one.object) is)
      (ap (λ (one : Change). one.new) is)

  -- a task takes its cog, or releases it
  state_types : (task : TaskState) → slice_get config.tasks index ≡ Some task → change.task.frames ≡ task.frames
      → change.task.outcome ≡ task.outcome → change.written ≡ None → change.object ≡ None → change.new ≡ None
      → Types program config index change
  state_types task there frames_are outcome_is unwritten no_object no_task =
      plain_types program config index change event
      (state_typed program config index change event task there frames_are outcome_is) unwritten no_object no_task

-- Each rule shows what a rule has to show.
pub rule_types : (program : ProgramTree) (config : Configuration) (index : ℕ) (change : Change)
    → IsEvent program config index change → Rule program config index change → Types program config index change
rule_types program config index change event (Taken task cog there open_still can_take cog_there free is) =
    state_types program config index change event task there (ap (λ (one : Change). one.task.frames) is)
    (ap (λ (one : Change). one.task.outcome) is) (ap (λ (one : Change). one.written) is)
    (ap (λ (one : Change). one.object) is) (ap (λ (one : Change). one.new) is)
rule_types program config index change event (Faulted at cause same runner fails is) =
    faulted_types program config index change event at cause same runner fails is
rule_types program config index change event (Skipped at point values same running effect is) =
    passed_types program config index change event at same point values running Skips effect refl (λ other. absurd cc)
    true [] did.Went is
rule_types program config index change event (Stored at point target value same running effect is) =
    stored_types program config index change event at same point target value running effect is
rule_types program config index change event (Cleared at point values target same running effect is) =
    cleared_types program config index change event at same point values target running effect is
rule_types program config index change event (Chosen at point value answer same running effect truth is) =
    passed_types program config index change event at same point (value ∷ []) running Chooses effect refl
    (λ other. absurd cc) answer [] did.Went is
rule_types program config index change event (Printed at point string same running effect is) =
    passed_types program config index change event at same point (StringValue string ∷ []) running Prints effect refl
    (λ other. absurd cc) true (string ∷ []) did.Printed is
rule_types program config index change event
    (Made at point values mode class target entry same running effect taken is) =
    made_types program config index change event at same point values mode class target entry running effect taken is
rule_types program config index change event
    (Called at point object cell arguments method target body same running effect there found is) =
    called_types program config index change event at same point object cell arguments method target body running effect
    there found is
rule_types program config index change event
    (Pushed at point object arguments method target body same running effect there found is) =
    pushed_types program config index change event at same point object arguments method target body running effect
    there found is
rule_types program config index change event
    (Got at point values slot target future task value same running effect holds there gave is) =
    goes_types program config index change event at same point values running (Gets slot target) effect true
    (λ other. absurd cc) value
    (got_takes program config index change event at same point values slot target future task value running effect holds
    there gave)
    [] did.Went is
rule_types program config index change event (Passed at point values names same running effect resolved is) =
    passed_types program config index change event at same point values running (Awaits names) effect refl
    (λ other. absurd cc) true [] did.Went is
rule_types program config index change event (Released at point values names same running effect unresolved is) =
    state_types program config index change event at.task
    (ap (slice_get config.tasks) (sym same) ∙ running.runner.there) (ap (λ (one : Change). one.task.frames) is)
    (ap (λ (one : Change). one.task.outcome) is) (ap (λ (one : Change). one.written) is)
    (ap (λ (one : Change). one.object) is) (ap (λ (one : Change). one.new) is)
rule_types program config index change event (Suspended at point values same running effect is) =
    suspended_types program config index change event at same point values running effect is
rule_types program config index change event (Gave at value same runner others_are value_of is) =
    gave_types program config index change event at runner same value value_of others_are is
rule_types program config index change event (Popped at below rest value same runner others_are value_of is) =
    popped_types program config index change event at runner same value value_of below rest others_are is
