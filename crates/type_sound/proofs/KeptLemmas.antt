-- What is well typed stays so, and what a rule of the table of events has to show.
--
--   `Types`                    what a rule has to show: the task, what is written, the new object and the new task
--   `frame_stays`, `fits_stays`    a frame stays well typed, and its result type fits its target still
--   `task_stays`               a task stays well typed
--   `runner_frames`            so do the frames of a task that runs, before the event puts others in their place
--   `kept_typed`               then the configuration after the event is well typed
use Rattle.std.proofs.Common.{◌≡◌, ℕ, suc, List, ◌∷◌, slice_get, Some, sym, ap, ◌∙◌, subst, inl, inr, ⊎_elim}
use Rattle.std.specs.Prelude.{option_and_then}
use Rattle.abs_tree.specs.Syntax.{Name, ProgramTree}
use Rattle.abs_types.specs.PlainTypes.{PlainType}
use Rattle.abs_values.specs.ValueTrees.{ValueTree}
use Rattle.config_state.specs.Configurations.{ObjectState, FrameState, TaskState, Configuration}
use Rattle.config_state.specs.declared.frame.Target.{Target}
use Rattle.config_state.specs.declared.frame.Target.TheVariants.{Nothing}
use Rattle.step_rules.proofs.AfterLemmas.{task-after, object-after}
use Rattle.step_rules.specs.Changes.{Written, Change, configuration_after}
use Rattle.step_rules.specs.Lookups.{Runner}
use Rattle.step_rules.specs.RuleParts.{IsRunner}
use Rattle.step_rules.specs.Stays.{IsSameObject, TaskAfter, Moved, Old, New, ObjectAfter, Kept, Filled, Fresh}
use Rattle.type_sound.proofs.Events.{ValueIn, IsEvent}
use Rattle.type_sound.proofs.FrameLemmas.{AreFramesTyped, above_from, task_frames}
use Rattle.type_sound.proofs.GrowthLemmas.{routine_stays, result_stays, value_stays}
use Rattle.type_sound.specs.Routines.{Routine, fields_of_class}
use Rattle.type_sound.specs.WellTyped.{above, IsFrameTyped, target_type_in, target_takes, FitsTarget, IsTaskTyped, IsObjectTyped, IsWellTyped}

-- What a rule of the table has to show: after its event the task that moves is well typed, what is written has the
-- types of the fields, and the object and the task that are made are well typed.
pub record Types (program : ProgramTree) (config : Configuration) (index : ℕ) (change : Change) : Type 0 where
  pub task : IsTaskTyped program (configuration_after config index change) change.task
  pub written : (written : Written) (cell : ObjectState) → change.written ≡ Some written
      → slice_get config.objects written.object ≡ Some cell → (field : ℕ) (value : ValueTree) (type : PlainType)
      → slice_get written.fields field ≡ Some value
      → slice_get (fields_of_class program cell.class) field ≡ Some type
      → ValueIn program (configuration_after config index change) value type
  pub object : (object : ObjectState) → change.object ≡ Some object
      → IsObjectTyped program (configuration_after config index change) object
  pub new : (task : TaskState) → change.new ≡ Some task
      → IsTaskTyped program (configuration_after config index change) task

module _ (program : ProgramTree) (config : Configuration) (index : ℕ) (change : Change)
    (event : IsEvent program config index change) where
  -- the configuration after the event
  abbrev after : Configuration
  after = configuration_after config index change

  module _ (at : ℕ) (task : TaskState) (there : slice_get config.tasks at ≡ Some task) where
    -- a frame of a task that is there
    frame_stays : (depth : ℕ) (frame : FrameState) (pending : Target) → slice_get task.frames depth ≡ Some frame
        → IsFrameTyped program config pending frame → IsFrameTyped program after pending frame
    frame_stays depth frame pending is typed = record {
      routine = typed.routine;
      there = routine_stays program config index change event at depth task frame there is ∙ typed.there;
      slots = λ slot value type found known. ⊎_elim (λ null. inl null)
          (λ has. inr (value_stays program config index change event value type has))
          (typed.slots slot value type found known);
      params = λ slot within value type found known. value_stays program config index change event value type
          (typed.params slot within value type found known);
      seen = λ statement slot goes visible apart value type found known.
          value_stays program config index change event value type
          (typed.seen statement slot goes visible apart value type found known);
      ends = typed.ends;
    }

    -- the type that a target in a frame takes
    target_stays : (depth : ℕ) (below : FrameState) (target : Target) → slice_get task.frames depth ≡ Some below
        → target_takes program after below target ≡ target_takes program config below target
    target_stays depth below target is =
        ap (option_and_then (λ (routine : Routine). target_type_in routine target))
        (routine_stays program config index change event at depth task below there is)

    -- the result type of a frame fits its target
    fits_stays : (depth lower : ℕ) (frame below : FrameState) → slice_get task.frames depth ≡ Some frame
        → slice_get task.frames lower ≡ Some below → FitsTarget program config frame below
        → FitsTarget program after frame below
    fits_stays depth lower frame below is below_is fits = record {
      fit = λ routine type found takes. fits.fit routine type
          (sym (routine_stays program config index change event at depth task frame there is) ∙ found)
          (sym (target_stays lower below frame.target below_is) ∙ takes);
    }

    -- the frames of a task
    frames_stay : AreFramesTyped program config Nothing task.frames
        → AreFramesTyped program after Nothing task.frames
    frames_stay are = record {
      each = λ depth frame is. frame_stays depth frame (above_from Nothing task.frames depth) is
          (are.each depth frame is);
      targets = λ depth frame is below below_is.
          fits_stays depth (suc depth) frame below is below_is (are.targets depth frame is below below_is);
    }

    -- a task
    pub task_stays : IsTaskTyped program config task → IsTaskTyped program after task
    task_stays typed = record {
      frames = λ depth frame is. frame_stays depth frame (above task.frames depth) is (typed.frames depth frame is);
      targets = λ depth frame is below below_is.
          fits_stays depth (suc depth) frame below is below_is (typed.targets depth frame is below below_is);
      result = λ value is. subst (ValueIn program after value)
          (sym (result_stays program config index change event at task there))
          (value_stays program config index change event value _ (typed.result value is));
      no_type_fault = typed.no_type_fault;
    }

  -- the frames of the task that runs, before the event
  pub runner_frames : (runner : Runner) → IsRunner config runner
      → AreFramesTyped program after Nothing (runner.frame ∷ runner.others)
  runner_frames runner is = subst (AreFramesTyped program after Nothing) is.frames_are
      (frames_stay runner.index runner.task is.there
      (task_frames program config runner.task (event.typed.tasks runner.index runner.task is.there)))

  -- What is well typed stays so, if a rule shows all of this.
  pub kept_typed : Types program config index change → IsWellTyped program after
  kept_typed types = record {
    objects = λ other object there. by_object other object (object-after config index change other object there);
    tasks = λ other task there. by_task other task (task-after config index change other task there);
  }
    where
      by_task : (other : ℕ) (task : TaskState) → TaskAfter config index change other task
          → IsTaskTyped program after task
      by_task other task (Moved at is) = subst (IsTaskTyped program after) (sym is) types.task
      by_task other task (Old differs there) = task_stays other task there (event.typed.tasks other task there)
      by_task other task (New last is) = types.new task is

      known_before : (before object : ObjectState) → IsSameObject before object → (field : ℕ) (type : PlainType)
          → slice_get (fields_of_class program object.class) field ≡ Some type
          → slice_get (fields_of_class program before.class) field ≡ Some type
      known_before before object same field type known =
          ap (λ (class : Name). slice_get (fields_of_class program class) field) (sym same.class) ∙ known

      by_object : (other : ℕ) (object : ObjectState) → ObjectAfter config change other object
          → IsObjectTyped program after object
      by_object other object (Kept before there same fields) = record {
        fields = λ field value type is known. value_stays program config index change event value type
            ((event.typed.objects other before there).fields field value type
            (ap (λ (all : List ValueTree). slice_get all field) (sym fields) ∙ is)
            (known_before before object same field type known));
      }
      by_object other object (Filled before written there same is at fields) = record {
        fields = λ field value type found known. types.written written before is
            (ap (slice_get config.objects) at ∙ there) field value type
            (ap (λ (all : List ValueTree). slice_get all field) (sym fields) ∙ found)
            (known_before before object same field type known);
      }
      by_object other object (Fresh last is) = types.object object is
