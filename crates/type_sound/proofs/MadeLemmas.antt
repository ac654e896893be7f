-- The rule of `new` keeps types: the fields of the new object have their types, and so has its task of `run`.
--
--   `made_types`                   what `new` shows
use Rattle.std.proofs.Common.{◌≡◌, ℕ, true, List, [], ◌++◌, Option, Some, None, length, refl, sym, ap, ◌∙◌, subst}
use Rattle.std.specs.Prelude.{codes, option_map, slice_get}
use Rattle.std.proofs.lemmas.Option.{none-some, same_Some}
use Rattle.abs_program.specs.Bodies.{ClassEntryTree}
use Rattle.abs_program.specs.Control.{Point}
use Rattle.abs_program.specs.Instructions.{Makes, effect_of}
use Rattle.abs_program.specs.ProgramBodies.{BodyAt}
use Rattle.abs_tree.specs.Syntax.{Name, VariableTree, ProgramTree}
use Rattle.abs_tree.specs.declared.syntax.statement.Mode.{Mode}
use Rattle.abs_types.specs.PlainTypes.{PlainType, PlainClass}
use Rattle.abs_values.specs.ValueTrees.{ValueTree, ObjectValue}
use Rattle.config_state.specs.Bodies.{class_taking, method_at}
use Rattle.config_state.specs.Configurations.{ObjectState, TaskState, Configuration}
use Rattle.step_rules.proofs.AfterLemmas.{object-new}
use Rattle.step_rules.specs.Changes.{Change, configuration_after}
use Rattle.step_rules.specs.Lookups.{Runner, successor, place_of}
use Rattle.step_rules.specs.NewEntries.{task_for, home_of, run_task}
use Rattle.step_rules.specs.ObjectRules.{new_with}
use Rattle.step_rules.specs.RuleParts.{IsRunningAt}
use Rattle.step_rules.specs.Targets.{target_of}
use Rattle.step_rules.specs.declared.kind.Did.TheVariants as did
use Rattle.type_sound.proofs.AdvanceLemmas.{all_after, takes_after, task_goes}
use Rattle.type_sound.proofs.CallFoundLemmas.{can_enter}
use Rattle.type_sound.proofs.ClassLemmas.{run_takes_nothing}
use Rattle.type_sound.proofs.Events.{ValueIn, IsEvent}
use Rattle.type_sound.proofs.FaultLemmas.{event_innermost, point_fits}
use Rattle.type_sound.proofs.BoundLemmas.{value_has_type}
use Rattle.type_sound.proofs.FoundValueLemmas.{object_has_class}
use Rattle.type_sound.proofs.GoingLemmas.{goes_on_written}
use Rattle.type_sound.proofs.InnermostLemmas.{IsInnermost}
use Rattle.type_sound.proofs.KeptLemmas.{Types}
use Rattle.type_sound.proofs.RoutineLemmas.{method_has_routine}
use Rattle.type_sound.proofs.StartLemmas.{new_task_typed}
use Rattle.type_sound.specs.Fitting.{IsFilled}
use Rattle.type_sound.specs.WellTyped.{world_of, target_type_in, IsTaskTyped, IsObjectTyped}

module _ (program : ProgramTree) (config : Configuration) (index : ℕ) (change : Change)
    (event : IsEvent program config index change) (at : Runner) (same : at.index ≡ index) (point : Point)
    (values : List ValueTree) (mode : Mode) (class : Name) (target : Option VariableTree) (entry : ClassEntryTree)
    (running : IsRunningAt program config at point values)
    (effect : effect_of point.statement ≡ Makes mode class target)
    (taken : class_taking program class ≡ Some entry)
    (is : change ≡ new_with program config at (place_of point) (successor point.goes true) mode class target values
    (Some entry)) where
  -- the configuration after the event
  abbrev after : Configuration
  after = configuration_after config index change

  -- what the innermost frame executes
  abbrev inner : IsInnermost program config at
  inner = event_innermost program config index change event at running.runner

  -- the values of the object fit
  filled : IsFilled program (world_of program config) inner.routine values class target
  filled = point_fits program config index change event at inner point values (Makes mode class target) running effect

  -- the new object
  abbrev made : ObjectState
  made = record {
    cog = home_of mode config at.task.cog;
    place = place_of point;
    class = class;
    fields = values;
  }

  -- it is what the event makes
  made_is : change.object ≡ Some made
  made_is = ap (λ (one : Change). one.object) is

  -- it is there after the event
  made_there : slice_get after.objects (length config.objects) ≡ Some made
  made_there = object-new config index change made made_is

  -- the target takes it
  made_takes : (asked : PlainType) → target_type_in inner.routine (target_of target) ≡ Some asked
      → ValueIn program after (ObjectValue (length config.objects)) asked
  made_takes asked asked_is =
      takes_after program config index change event at same point values running target
      (ObjectValue (length config.objects)) (PlainClass class) filled.takes
      (object_has_class program after (length config.objects) made made_there) asked asked_is

  -- its fields have their types
  made_typed : IsObjectTyped program after made
  made_typed = record {
    fields = λ field value type value_is type_is.
        let own = value_has_type program (world_of program after) values (filled.taken ++ filled.others) field value
        (all_after program config index change event values (filled.taken ++ filled.others) filled.have) value_is in
        subst (ValueIn program after value) (same_Some own.0 type
        (sym own.1 ∙ (ap (λ types. slice_get types field) (sym filled.fields_are) ∙ type_is))) own.2;
  }

  -- the task of its method `run` is well typed, if its class is active
  run_typed : (member : ℕ) (body : BodyAt) → entry.run ≡ Some member → method_at program class (codes "run") ≡ Some body
      → IsTaskTyped program after
      (task_for body (home_of mode config at.task.cog) (length config.objects) (codes "run") None [])
  run_typed member body runs found =
      let routine = method_has_routine program class (codes "run") body found in
      let enters = can_enter program event.accepted made (codes "run") routine.0 routine.1
      (found ∙ ap Some (sym routine.2)) in
      subst (λ (one : BodyAt). IsTaskTyped program after
      (task_for one (home_of mode config at.task.cog) (length config.objects) (codes "run") None [])) routine.2
      (new_task_typed program after (home_of mode config at.task.cog) (length config.objects) made (codes "run") None []
      routine.0 made_there routine.1
      (sym (ap (λ (one : BodyAt). one.params) routine.2 ∙ run_takes_nothing program class entry member body taken runs
      found))
      (λ slot value type none. absurd (none-some value none)) enters.sees enters.begins)

  -- so is each task that is made with it
  ran_typed : (run : Option ℕ) → entry.run ≡ run → (task : TaskState)
      → run_task program (home_of mode config at.task.cog) (length config.objects) class run ≡ Some task
      → IsTaskTyped program after task
  ran_typed None runs task made_task = absurd (none-some task made_task)
  ran_typed (Some member) runs task made_task = by_body (method_at program class (codes "run")) refl made_task
    where
      by_body : (found : Option BodyAt) → method_at program class (codes "run") ≡ found
          → option_map (λ body. task_for body (home_of mode config at.task.cog) (length config.objects) (codes "run")
          None []) found ≡ Some task
          → IsTaskTyped program after task
      by_body None found task_is = absurd (none-some task task_is)
      by_body (Some body) found task_is =
          subst (IsTaskTyped program after) (same_Some _ task task_is) (run_typed member body runs found)

  -- `new` shows what a rule has to show
  pub made_types : Types program config index change
  made_types = record {
    task = task_goes program config index change event at same point values running (Makes mode class target) effect
        true (λ other. absurd cc) (ObjectValue (length config.objects)) made_takes
        (ap (λ (one : Change). one.task.frames) is)
        (ap (λ (one : Change). one.task.outcome) is ∙ running.runner.open_still);
    written = goes_on_written program config index change event at running.runner inner.routine inner.there
        (target_of target) (ObjectValue (length config.objects)) (successor point.goes true) [] did.Made
        (ap (λ (one : Change). one.written) is) made_takes;
    object = λ object object_is.
        subst (IsObjectTyped program after) (same_Some made object (sym made_is ∙ object_is)) made_typed;
    new = λ task task_is. ran_typed entry.run refl task (sym (ap (λ (one : Change). one.new) is) ∙ task_is);
  }
