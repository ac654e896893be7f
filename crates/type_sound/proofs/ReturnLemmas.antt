-- The rules of `return` and of `get` keep types: what a frame returns has its result type.
--
--   `value_returns`                what a frame returns has its result type after the event
--   `gave_types`                   what the return of the outermost frame shows
--   `popped_types`                 what the return of an inner frame shows
--   `got_takes`                    the target of a `get` takes the result of the task
use Rattle.std.proofs.Common.{◌≡◌, ℕ, true, List, [], ◌∷◌, Option, Some, sym, ap, ◌∙◌, subst}
use Rattle.std.specs.Prelude.{slice_get}
use Rattle.std.proofs.lemmas.Option.{none-some, same_Some}
use Rattle.abs_program.specs.Control.{Point}
use Rattle.abs_program.specs.Instructions.{Returns, Gets, effect_of}
use Rattle.abs_tree.specs.Syntax.{Name, VariableTree, ProgramTree}
use Rattle.abs_types.specs.PlainTypes.{PlainType}
use Rattle.abs_types.specs.Subtyping.{fits}
use Rattle.abs_values.specs.Results.{Gives}
use Rattle.abs_values.specs.ValueTrees.{ValueTree, FutureValue}
use Rattle.config_state.specs.Configurations.{FrameState, TaskState, Configuration, object_at}
use Rattle.step_rules.specs.Changes.{Change, ended_change, configuration_after}
use Rattle.step_rules.specs.Lookups.{Runner, named_value, unit_value}
use Rattle.step_rules.specs.ObjectRules.{goes_on}
use Rattle.step_rules.specs.RuleParts.{IsRunner, IsRunningAt, IsValueOf, AtEnd, ByReturn}
use Rattle.step_rules.specs.Targets.{target_of}
use Rattle.step_rules.specs.declared.kind.Did.TheVariants as did
use Rattle.type_sound.proofs.AdvanceLemmas.{up_after, plain_types, takes_after}
use Rattle.type_sound.proofs.EndLemmas.{ended_typed}
use Rattle.type_sound.proofs.Events.{ValueIn, IsEvent}
use Rattle.type_sound.proofs.FaultLemmas.{only_value, event_innermost, point_fits}
use Rattle.type_sound.proofs.GoingLemmas.{pops_typed, pops_written}
use Rattle.type_sound.proofs.GrowthLemmas.{value_stays}
use Rattle.type_sound.proofs.InnermostLemmas.{IsInnermost}
use Rattle.type_sound.proofs.KeptLemmas.{Types}
use Rattle.type_sound.proofs.PreludeLemmas.{unit_has}
use Rattle.type_sound.proofs.SortLemmas.{got_task}
use Rattle.type_sound.specs.Fitting.{IsGot}
use Rattle.type_sound.specs.Routines.{routine_found, result_or_unit, result_of_task}
use Rattle.type_sound.specs.WellTyped.{world_of, target_type_in}

module _ (program : ProgramTree) (config : Configuration) (index : ℕ) (change : Change)
    (event : IsEvent program config index change) (at : Runner) (runner : IsRunner config at) where
  -- the configuration after the event
  abbrev after : Configuration
  after = configuration_after config index change

  -- what the innermost frame executes
  abbrev inner : IsInnermost program config at
  inner = event_innermost program config index change event at runner

  -- what it returns has its result type after the event
  value_returns : (value : ValueTree) → IsValueOf program config at value
      → ValueIn program after value inner.routine.result
  value_returns value (AtEnd none value_is) =
      subst (λ (one : ValueTree). ValueIn program after one inner.routine.result) (sym value_is)
      (subst (ValueIn program after (unit_value program.names)) (sym (inner.ends none))
      (unit_has program (world_of program after) event.accepted))
  value_returns value (ByReturn point running effect) =
      value_stays program config index change event value inner.routine.result
      (only_value program (world_of program config) value inner.routine.result
      (point_fits program config index change event at inner point (value ∷ []) Returns running effect))

  -- the result type of the outermost frame is that of the task
  result_of_outermost : at.others ≡ [] → result_of_task program config at.task ≡ inner.routine.result
  result_of_outermost others_are =
      let outer = (event.housed.tasks_housed at.index at.task runner.there).outermost 0 at.frame
      (ap (λ (frames : List FrameState). slice_get frames 0) runner.frames_are)
      (ap (λ (frames : List FrameState). slice_get frames 1) runner.frames_are
      ∙ ap (λ (frames : List FrameState). slice_get frames 0) others_are) in
      sym (ap (λ (object : Option ℕ). result_or_unit (routine_found program (object_at config object) at.frame.method))
      outer.0
      ∙ ap (λ (method : Option Name). result_or_unit (routine_found program (object_at config at.task.object) method))
      outer.1)
      ∙ ap result_or_unit inner.there

  module _ (same : at.index ≡ index) (value : ValueTree) (value_of : IsValueOf program config at value) where
    -- The return of the outermost frame shows what a rule has to show.
    pub gave_types : at.others ≡ [] → change ≡ ended_change at.task (Gives value)
        → Types program config index change
    gave_types others_are is =
        plain_types program config index change event
        (ended_typed program config index change event at.task
        (ap (slice_get config.tasks) (sym same) ∙ runner.there) (ap (λ (one : Change). one.task.frames) is)
        (Gives value) (ap (λ (one : Change). one.task.outcome) is)
        (subst (ValueIn program after value) (sym (result_of_outermost others_are))
        (value_returns value value_of)))
        (ap (λ (one : Change). one.written) is) (ap (λ (one : Change). one.object) is)
        (ap (λ (one : Change). one.new) is)

    -- So does that of an inner frame.
    pub popped_types : (below : FrameState) (rest : List FrameState) → at.others ≡ below ∷ rest
        → change ≡ goes_on config index at.task at.frame.target value below.next below rest [] did.Went
        → Types program config index change
    popped_types below rest others_are is = record {
      task = pops_typed program config index change event at same runner below rest others_are inner.routine inner.there
          value (value_returns value value_of) (ap (λ (one : Change). one.task.frames) is)
          (ap (λ (one : Change). one.task.outcome) is ∙ runner.open_still) (up_after program config index change event);
      written = pops_written program config index change event at runner below rest others_are inner.routine inner.there
          value (value_returns value value_of) [] did.Went (ap (λ (one : Change). one.written) is)
          (up_after program config index change event);
      object = λ object made. absurd (none-some object (sym (ap (λ (one : Change). one.object) is) ∙ made));
      new = λ task made. absurd (none-some task (sym (ap (λ (one : Change). one.new) is) ∙ made));
    }

module _ (program : ProgramTree) (config : Configuration) (index : ℕ) (change : Change)
    (event : IsEvent program config index change) (at : Runner) (same : at.index ≡ index) (point : Point)
    (values : List ValueTree) (slot : Option ℕ) (target : Option VariableTree) (future : ℕ) (task : TaskState)
    (value : ValueTree) (running : IsRunningAt program config at point values)
    (effect : effect_of point.statement ≡ Gets slot target)
    (holds : named_value at.frame.slots slot ≡ Some (FutureValue future))
    (there : slice_get config.tasks future ≡ Some task) (gave : task.outcome ≡ Some (Gives value)) where
  -- what the innermost frame executes
  abbrev getting : IsInnermost program config at
  getting = event_innermost program config index change event at running.runner

  -- it gets a future
  got : IsGot program (world_of program config) getting.routine at.frame.slots slot target
  got = point_fits program config index change event at getting point values (Gets slot target) running effect

  -- the result type of its task fits the type of the values of the future
  got_fits : fits program.source.declarations (result_of_task program config task) got.type ≡ true
  got_fits =
      let found = got_task program config event.accepted event.of_program at getting.routine getting.there values slot
      target future holds got in
      ap (λ (one : TaskState). fits program.source.declarations (result_of_task program config one) got.type)
      (same_Some task found.0 (sym there ∙ found.1)) ∙ found.2

  -- The target of a `get` takes the result of the task after the event.
  pub got_takes : (asked : PlainType) → target_type_in getting.routine (target_of target) ≡ Some asked
      → ValueIn program (configuration_after config index change) value asked
  got_takes asked asked_is =
      takes_after program config index change event at same point values running target value got.type got.takes
      (up_after program config index change event value (result_of_task program config task) got.type got_fits
      (value_stays program config index change event value (result_of_task program config task)
      ((event.typed.tasks future task there).result value gave)))
      asked asked_is
