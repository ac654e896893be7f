-- What was there before an event is there after it, and means the same: the routine of each frame, the result type of
-- each task, and the types of each value.
--
--   `found_stays`              the routine of an object and a method
--   `routine_stays`            that of a frame
--   `result_stays`, `own_result_stays`     the result type of a task, and that of the task that moves
--   `world_grows`              there are more objects and tasks
--   `value_stays`              a value keeps its types
use Rattle.std.proofs.Common.{◌≡◌, ◌≢◌, ◌⊎◌, ◌<◌, ℕ, inl, inr, List, length, map, slice_get, Option, Some, None, refl, sym, ap, ◌∙◌}
use Rattle.std.proofs.lemmas.Bool.{cases_eq}
use Rattle.std.proofs.lemmas.Option.{same_Some, slice_get-map}
use Rattle.std.specs.Option.{option_map}
use Rattle.abs_tree.specs.Syntax.{Name, ProgramTree}
use Rattle.abs_types.specs.PlainTypes.{PlainType}
use Rattle.abs_values.specs.ValueTrees.{ValueTree}
use Rattle.config_state.specs.Configurations.{ObjectState, FrameState, TaskState, Configuration, object_at}
use Rattle.list_facts.proofs.EntryLemmas.{slice_get-there, slice_get-mapped}
use Rattle.step_rules.specs.Changes.{Change, configuration_after}
use Rattle.step_rules.specs.Stays.{IsSameTask}
use Rattle.type_sound.proofs.Events.{ValueIn, IsEvent, event_stays}
use Rattle.type_sound.proofs.ValueLemmas.{Grows, value_grows}
use Rattle.type_sound.specs.Routines.{method_routine, routine_found, routine_of, result_or_unit, result_of_task}
use Rattle.type_sound.specs.WellTyped.{world_of}

-- the view of an entry is at its index among the views
mapped_there : {A B : Type 0} (view : A → B) (list : List A) (index : ℕ) (entry : A)
    → slice_get list index ≡ Some entry → slice_get (map view list) index ≡ Some (view entry)
mapped_there view list index entry there = slice_get-map view list index ∙ ap (option_map view) there

-- the routine of an object is by its class
class_routine : (program : ProgramTree) (method : Option Name) (one other : ObjectState) → other.class ≡ one.class
    → routine_found program (Some other) method ≡ routine_found program (Some one) method
class_routine program None one other same = refl
class_routine program (Some method) one other same = ap (λ (class : Name). method_routine program class method) same

-- the result type of a task is by its object and its method
same_result : (program : ProgramTree) (config : Configuration) (one other : TaskState) → IsSameTask one other
    → result_of_task program config other ≡ result_of_task program config one
same_result program config one other same =
    ap (λ (object : Option ℕ). result_or_unit (routine_found program (object_at config object) other.method))
    same.object
    ∙ ap (λ (method : Option Name). result_or_unit (routine_found program (object_at config one.object) method))
    same.method

module _ (program : ProgramTree) (config : Configuration) (index : ℕ) (change : Change)
    (event : IsEvent program config index change) where
  -- the configuration after the event
  abbrev after : Configuration
  after = configuration_after config index change

  -- the routine of an object and a method
  pub found_stays : (object : Option ℕ) (method : Option Name)
      → ((at : ℕ) → object ≡ Some at → at < length config.objects)
      → routine_found program (object_at after object) method ≡ routine_found program (object_at config object) method
  found_stays None method there = refl
  found_stays (Some at) method there =
      let cell = slice_get-there config.objects at (there at refl) in
      let now = (event_stays program config index change event).objects_stay at cell.0 cell.1 in
      ap (λ (found : Option ObjectState). routine_found program found method) now.1
      ∙ (class_routine program method cell.0 now.0 now.2.class
      ∙ sym (ap (λ (found : Option ObjectState). routine_found program found method) cell.1))

  -- the routine of a frame of a task
  pub routine_stays : (at depth : ℕ) (task : TaskState) (frame : FrameState) → slice_get config.tasks at ≡ Some task
      → slice_get task.frames depth ≡ Some frame → routine_of program after frame ≡ routine_of program config frame
  routine_stays at depth task frame there is = found_stays frame.object frame.method
      ((event.formed.tasks_formed at task there).frames_formed depth frame is).object_there

  -- the result type of a task
  pub result_stays : (at : ℕ) (task : TaskState) → slice_get config.tasks at ≡ Some task
      → result_of_task program after task ≡ result_of_task program config task
  result_stays at task there = ap result_or_unit
      (found_stays task.object task.method (event.formed.tasks_formed at task there).object_there)

  -- the result type of the task that moves
  pub own_result_stays : (task : TaskState) → slice_get config.tasks index ≡ Some task
      → result_of_task program after change.task ≡ result_of_task program config task
  own_result_stays task there =
      let stays = event_stays program config index change event in
      same_result program after stays.task change.task stays.is_same
      ∙ (ap (result_of_task program after) (same_Some stays.task task (sym stays.there ∙ there))
      ∙ result_stays index task there)

  -- the result type of a task is that of the task with its index after the event
  type_stays : (at : ℕ) (task : TaskState) → slice_get config.tasks at ≡ Some task
      → slice_get (map (λ (one : TaskState). result_of_task program after one) after.tasks) at
      ≡ Some (result_of_task program config task)
  type_stays at task there = by_index (cases_eq at index)
    where
      by_index : (at ≡ index) ⊎ (at ≢ index)
          → slice_get (map (λ (one : TaskState). result_of_task program after one) after.tasks) at
          ≡ Some (result_of_task program config task)
      by_index (inl same) =
          ap (slice_get (map (λ (one : TaskState). result_of_task program after one) after.tasks)) same
          ∙ (mapped_there (λ (one : TaskState). result_of_task program after one) after.tasks index change.task
          (event_stays program config index change event).moves
          ∙ ap Some (own_result_stays task (ap (slice_get config.tasks) (sym same) ∙ there)))
      by_index (inr differs) =
          mapped_there (λ (one : TaskState). result_of_task program after one) after.tasks at task
          ((event_stays program config index change event).tasks_stay at task there differs)
          ∙ ap Some (result_stays at task there)

  -- There are more objects and tasks.
  pub world_grows : Grows (world_of program config) (world_of program after)
  unfolding world_of
  world_grows = record {
    classes = λ object class is.
        let entry = slice_get-mapped (λ (one : ObjectState). one.class) config.objects object class is in
        let now = (event_stays program config index change event).objects_stay object entry.0 entry.1 in
        mapped_there (λ (one : ObjectState). one.class) after.objects object now.0 now.1
        ∙ ap Some (now.2.class ∙ entry.2);
    results = λ task type is.
        let entry = slice_get-mapped (λ (one : TaskState). result_of_task program config one) config.tasks task type is
        in type_stays task entry.0 entry.1 ∙ ap Some entry.2;
  }

  -- a value keeps its types
  pub value_stays : (value : ValueTree) (type : PlainType) → ValueIn program config value type
      → ValueIn program after value type
  value_stays value type has = value_grows program _ _ world_grows value type has
