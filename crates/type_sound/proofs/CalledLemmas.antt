-- The rules of calls keep types: the arguments have the types that the method takes, and the target takes what the
-- method gives, or a future of it.
--
--   `called_types`                 what a call by "!" shows
--   `pushed_types`                 what a call on `this` shows
use Rattle.std.proofs.Common.{◌≡◌, ℕ, true, List, [], ◌∷◌, Option, Some, None, length, refl, sym, ap, ◌∙◌, subst}
use Rattle.std.specs.Prelude.{slice_get}
use Rattle.std.proofs.lemmas.Option.{none-some, same_Some}
use Rattle.abs_program.specs.Control.{Point}
use Rattle.abs_program.specs.Instructions.{Sends, CallsOwn, effect_of}
use Rattle.abs_program.specs.ProgramBodies.{BodyAt, entry_of_body}
use Rattle.abs_tree.specs.Syntax.{Name, VariableTree, ProgramTree}
use Rattle.abs_types.specs.PlainTypes.{PlainType, PlainFut}
use Rattle.abs_types.specs.Subtyping.{fits}
use Rattle.abs_types.specs.Typing.{known_at}
use Rattle.abs_values.specs.ValueTrees.{ValueTree, ObjectValue, FutureValue, NullValue}
use Rattle.config_state.specs.Configurations.{ObjectState, TaskState, Configuration, object_at, fields_of}
use Rattle.config_state.specs.First.{frame_for}
use Rattle.config_state.specs.declared.frame.Target.TheVariants.{Nothing}
use Rattle.step_rules.proofs.AfterLemmas.{task-new, object-there}
use Rattle.step_rules.specs.Changes.{Change, kept_change, configuration_after}
use Rattle.step_rules.specs.Lookups.{Runner, successor, place_of, callable}
use Rattle.step_rules.specs.NewEntries.{task_for}
use Rattle.step_rules.specs.ObjectRules.{call_with}
use Rattle.step_rules.specs.RuleParts.{IsRunningAt}
use Rattle.step_rules.specs.Targets.{target_of}
use Rattle.step_rules.specs.declared.kind.Did.TheVariants as did
use Rattle.type_sound.proofs.AdvanceLemmas.{all_after, takes_after, sees_next, ends_next, task_goes}
use Rattle.type_sound.proofs.CallFoundLemmas.{IsCalledRoutine}
use Rattle.type_sound.proofs.CallLemmas.{arguments_have}
use Rattle.type_sound.proofs.Events.{ValueIn, IsEvent}
use Rattle.type_sound.proofs.FaultLemmas.{event_innermost, point_fits}
use Rattle.type_sound.proofs.FoundValueLemmas.{future_has_result}
use Rattle.type_sound.proofs.GoingLemmas.{goes_on_written}
use Rattle.type_sound.proofs.InnermostLemmas.{IsInnermost}
use Rattle.type_sound.proofs.KeptLemmas.{Types}
use Rattle.type_sound.proofs.SortLemmas.{sent_call, own_call}
use Rattle.type_sound.proofs.StartLemmas.{new_task_typed, pushes_typed}
use Rattle.type_sound.specs.Fitting.{IsSent, IsOwnCall}
use Rattle.type_sound.specs.Routines.{method_routine, routine_found, result_or_unit, result_of_task}
use Rattle.type_sound.specs.WellTyped.{world_of, target_type_in, IsTaskTyped}

-- the values of the arguments have the types of the parameters after the event
arguments_after : (program : ProgramTree) (config : Configuration) (index : ℕ) (change : Change)
    (event : IsEvent program config index change) (class method : Name) (arguments : List ValueTree) (type : PlainType)
    (callee : IsCalledRoutine program (world_of program config) class method arguments type) (slot : ℕ)
    (value : ValueTree) (asked : PlainType) → slice_get arguments slot ≡ Some value
    → known_at callee.routine.slots slot ≡ Some asked
    → ValueIn program (configuration_after config index change) value asked
arguments_after program config index change event class method arguments type callee slot value asked is known =
    arguments_have program (world_of program (configuration_after config index change)) callee.routine
    callee.given arguments slot value asked callee.takes
    (all_after program config index change event arguments callee.given callee.have) is known

module _ (program : ProgramTree) (config : Configuration) (index : ℕ) (change : Change)
    (event : IsEvent program config index change) (at : Runner) (same : at.index ≡ index) (point : Point)
    (object : ℕ) (cell : ObjectState) (arguments : List ValueTree) (method : Name) (target : Option VariableTree)
    (body : BodyAt) (running : IsRunningAt program config at point (ObjectValue object ∷ arguments))
    (effect : effect_of point.statement ≡ Sends method target) (there : slice_get config.objects object ≡ Some cell)
    (found : callable program cell.class method (length arguments) ≡ Some body)
    (is : change ≡ call_with config at (place_of point) (successor point.goes true) object cell method target arguments
    (Some body)) where
  -- the configuration after the event
  abbrev after : Configuration
  after = configuration_after config index change

  -- what calls
  abbrev caller : IsInnermost program config at
  caller = event_innermost program config index change event at running.runner

  -- the values of the call fit
  sent : IsSent program (world_of program config) caller.routine (ObjectValue object ∷ arguments) method target
  sent = point_fits program config index change event at caller point (ObjectValue object ∷ arguments)
      (Sends method target) running effect

  -- what is called
  callee : IsCalledRoutine program (world_of program config) cell.class method arguments sent.type
  callee = sent_call program config event.accepted event.of_program at caller.routine caller.there
      (ObjectValue object ∷ arguments) method target object arguments cell refl there sent

  -- the new task
  abbrev task : TaskState
  task = task_for body cell.cog object method (Some (place_of point)) arguments

  -- it is what the event makes
  task_is : change.new ≡ Some task
  task_is = ap (λ (one : Change). one.new) is

  -- the object is there after the event, and has the method
  cell_after : (now : ObjectState) × (slice_get after.objects object ≡ Some now)
      × (method_routine program now.class method ≡ Some callee.routine)
  cell_after =
      let now = object-there config index change object cell there in
      (now.0, now.1, ap (λ class. method_routine program class method) now.2.class ∙ callee.is)

  -- the new task is well typed
  task_typed : IsTaskTyped program after task
  task_typed = subst (λ (one : BodyAt). IsTaskTyped program after
      (task_for one cell.cog object method (Some (place_of point)) arguments))
      (same_Some callee.routine.body body (sym callee.found ∙ found))
      (new_task_typed program after cell.cog object cell_after.0 method (Some (place_of point)) arguments callee.routine
      cell_after.1 cell_after.2 callee.count
      (arguments_after program config index change event cell.class method arguments sent.type callee)
      callee.enters.sees callee.enters.begins)

  -- its result type is that of the call
  result_is : result_of_task program after task ≡ sent.type
  result_is = ap (λ cell. result_or_unit (routine_found program cell (Some method))) cell_after.1
      ∙ (ap result_or_unit cell_after.2 ∙ callee.result_is)

  -- the target takes its future
  future_takes : (asked : PlainType) → target_type_in caller.routine (target_of target) ≡ Some asked
      → ValueIn program after (FutureValue (length config.tasks)) asked
  future_takes asked asked_is =
      takes_after program config index change event at same point (ObjectValue object ∷ arguments) running target
      (FutureValue (length config.tasks)) (PlainFut sent.type) sent.takes
      (subst (λ type. ValueIn program after (FutureValue (length config.tasks)) (PlainFut type)) result_is
      (future_has_result program after (length config.tasks) task (task-new config index change task task_is)))
      asked asked_is

  -- A call by "!" shows what a rule has to show.
  pub called_types : Types program config index change
  called_types = record {
    task = task_goes program config index change event at same point (ObjectValue object ∷ arguments) running
        (Sends method target) effect true (λ other. absurd cc) (FutureValue (length config.tasks)) future_takes
        (ap (λ (one : Change). one.task.frames) is)
        (ap (λ (one : Change). one.task.outcome) is ∙ running.runner.open_still);
    written = goes_on_written program config index change event at running.runner caller.routine caller.there
        (target_of target) (FutureValue (length config.tasks)) (successor point.goes true) [] did.Called
        (ap (λ (one : Change). one.written) is) future_takes;
    object = λ made made_is. absurd (none-some made (sym (ap (λ (one : Change). one.object) is) ∙ made_is));
    new = λ new new_is. subst (IsTaskTyped program after) (same_Some task new (sym task_is ∙ new_is)) task_typed;
  }

module _ (program : ProgramTree) (config : Configuration) (index : ℕ) (change : Change)
    (event : IsEvent program config index change) (at : Runner) (same : at.index ≡ index) (point : Point)
    (object : ObjectState) (arguments : List ValueTree) (method : Name) (target : Option VariableTree)
    (body : BodyAt) (running : IsRunningAt program config at point arguments)
    (effect : effect_of point.statement ≡ CallsOwn method target)
    (there : object_at config at.frame.object ≡ Some object)
    (found : callable program object.class method (length arguments) ≡ Some body)
    (is : change ≡ kept_change index at.task at.frame.object (record {
      frames = frame_for (entry_of_body body) (Some method) at.frame.object arguments (target_of target)
          ∷ record at.frame { next = successor point.goes true } ∷ at.others;
      fields = fields_of (object_at config at.frame.object);
    }) [] did.Called) where
  -- what calls
  abbrev calling : IsInnermost program config at
  calling = event_innermost program config index change event at running.runner

  -- the values of the call fit
  call : IsOwnCall program (world_of program config) calling.routine arguments method target
  call = point_fits program config index change event at calling point arguments (CallsOwn method target) running effect

  -- what is called
  entered : IsCalledRoutine program (world_of program config) object.class method arguments call.type
  entered =
      let found_call = own_call program config event.accepted event.of_program at calling.routine calling.there
      arguments method target call in
      subst (λ (cell : ObjectState). IsCalledRoutine program (world_of program config) cell.class method arguments
      call.type) (same_Some found_call.0 object (sym found_call.1 ∙ there)) found_call.2

  -- the frame of the method comes above that which calls
  frames_are : change.task.frames
      ≡ frame_for (entry_of_body entered.routine.body) (Some method) at.frame.object arguments (target_of target)
      ∷ record at.frame { next = successor point.goes true } ∷ at.others
  frames_are = ap (λ (one : Change). one.task.frames) is
      ∙ ap (λ (one : BodyAt). frame_for (entry_of_body one) (Some method) at.frame.object arguments (target_of target)
      ∷ record at.frame { next = successor point.goes true } ∷ at.others)
      (sym (same_Some entered.routine.body body (sym entered.found ∙ found)))

  -- the task is well typed
  pushed_typed : IsTaskTyped program (configuration_after config index change) change.task
  pushed_typed = pushes_typed program config index change event at same running.runner calling.routine calling.there
      entered.routine method arguments (target_of target) (successor point.goes true)
      (ap (λ cell. routine_found program cell (Some method)) there ∙ entered.is) frames_are
      (ap (λ (one : Change). one.task.outcome) is ∙ running.runner.open_still) entered.count
      (arguments_after program config index change event object.class method arguments call.type entered)
      entered.enters.sees entered.enters.begins
      (λ asked asked_is.
      ap (λ type. fits program.source.declarations type asked) entered.result_is ∙ call.takes asked asked_is)
      (sees_next program config index change event at same point arguments running (CallsOwn method target) effect true)
      (ends_next program config index change event at same point arguments running (CallsOwn method target) effect true
      (λ other. absurd cc))

  -- A call on `this` shows what a rule has to show.
  pub pushed_types : Types program config index change
  pushed_types = record {
    task = pushed_typed;
    written = goes_on_written program config index change event at running.runner calling.routine calling.there
        Nothing NullValue None [] did.Called (ap (λ (one : Change). one.written) is)
        (λ asked none. absurd (none-some asked none));
    object = λ made made_is. absurd (none-some made (sym (ap (λ (one : Change). one.object) is) ∙ made_is));
    new = λ new new_is. absurd (none-some new (sym (ap (λ (one : Change). one.new) is) ∙ new_is));
  }
