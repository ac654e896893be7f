-- Whether a configuration is well-formed does not depend on the table of names.
--
--   `formed_of_names`          what is well-formed with one table of names is so with another one
use Rattle.std.proofs.Common.{◌≡◌, ◌<◌, ℕ, List, [], length, map, reverse, Some, sym, ap, ◌∙◌, subst, arith}
use Rattle.std.proofs.lemmas.List.{length-map}
use Rattle.std.proofs.lemmas.Option.{slice_get-map}
use Rattle.std.specs.Option.{option_map}
use Rattle.abs_values.specs.References.{Reference, ToObject, ToFuture}
use Rattle.abs_tree.specs.Syntax.{Name}
use Rattle.abs_values.specs.ValueTrees.{ValueTree}
use Rattle.config_state.specs.Configurations.{FrameState, TaskState, Configuration, Each}
use Rattle.config_state.specs.Views.{object_state, frame_state, task_state, configuration_of}
use Rattle.config_state.specs.WellFormed.{IsThere, ValueIsThere, AreThere, IsRunningIn, IsCogFormed, IsObjectFormed, IsFrameFormed, IsTaskFormed, IsWellFormed}
use Rattle.config_state.specs.declared.cog.Cog.{Cog}
use Rattle.config_state.specs.declared.frame.Frame.{Frame}
use Rattle.config_state.specs.declared.object.ObjectCell.{ObjectCell}
use Rattle.config_state.specs.declared.task.TaskCell.{TaskCell}
use Rattle.list_facts.proofs.EntryLemmas.{slice_get-mapped}
use Rattle.list_facts.proofs.MapLemmas.{reverse-map, map-none}

-- what holds of each entry of a list holds of each entry of another one that is made of the same entries
Each-mapped : {A B : Type 0} (f g : A → B) (P Q : ℕ → B → Type 0) (list : List A)
    → ((index : ℕ) (one : A) → P index (f one) → Q index (g one)) → Each (map f list) P → Each (map g list) Q
Each-mapped f g P Q list turns each index entry is =
    let at = slice_get-mapped g list index entry is in
    subst (Q index) at.2
    (turns index at.0 (each index (f at.0) (slice_get-map f list index ∙ ap (option_map f) at.1)))

module _ (names others : List Name) (cogs : List Cog) (objects : List ObjectCell) (tasks : List TaskCell) where
  -- the configuration with each of the two tables
  abbrev one : Configuration
  one = configuration_of names cogs objects tasks

  abbrev other : Configuration
  other = configuration_of others cogs objects tasks

  objects_there : (object : ℕ) → object < length one.objects → object < length other.objects
  objects_there object within = omega (
    arith,
    within,
    length-map objects (object_state names),
    length-map objects (object_state others),
  )

  -- what is there with one table is there with the other
  there : (reference : Reference) → IsThere one reference → IsThere other reference
  there (ToObject object) within = objects_there object within
  there (ToFuture task) within = omega (
    arith,
    within,
    length-map tasks (task_state names),
    length-map tasks (task_state others),
  )

  value_there : (value : ValueTree) → ValueIsThere one value → ValueIsThere other value
  value_there value is reference inside = there reference (is reference inside)

  values_there : (values : List ValueTree) → AreThere one values → AreThere other values
  values_there values are index value is = value_there value (are index value is)

  -- a cog
  cog_formed : (index : ℕ) (cog : Cog) → IsCogFormed one index cog → IsCogFormed other index cog
  cog_formed index cog formed = record {
    parent_earlier = formed.parent_earlier;
    first_alone = formed.first_alone;
    holder_runs = runs;
  }
    where
      runs : (task : ℕ) → cog.holder ≡ Some task → IsRunningIn other index task
      runs task holds =
          let was = formed.holder_runs task holds in
          let at = slice_get-mapped (task_state names) tasks task was.task was.there in
          record {
            task = task_state others at.0;
            there = slice_get-map (task_state others) tasks task ∙ ap (option_map (task_state others)) at.1;
            in_cog = ap (λ (entry : TaskState). entry.cog) at.2 ∙ was.in_cog;
            runs = ap (λ (entry : TaskState). entry.state) at.2 ∙ was.runs;
          }

  -- an object
  object_formed : (index : ℕ) (cell : ObjectCell) → IsObjectFormed one (object_state names cell)
      → IsObjectFormed other (object_state others cell)
  object_formed index cell formed =
      record { cog_there = formed.cog_there; fields_there = values_there cell.fields formed.fields_there }

  -- a frame
  frame_formed : (depth : ℕ) (cell : Frame) → IsFrameFormed one (frame_state names cell)
      → IsFrameFormed other (frame_state others cell)
  frame_formed depth cell formed = record {
    object_there = λ object is. objects_there object (formed.object_there object is);
    slots_there = values_there cell.slots formed.slots_there;
  }

  -- a task
  task_formed : (index : ℕ) (cell : TaskCell) → IsTaskFormed one index (task_state names cell)
      → IsTaskFormed other index (task_state others cell)
  task_formed index cell formed = record {
    cog_there = formed.cog_there;
    object_there = λ object is. objects_there object (formed.object_there object is);
    frames_formed = subst (λ (frames : List FrameState). Each frames (λ depth frame. IsFrameFormed other frame))
        (sym (reverse-map (frame_state others) cell.frames))
        (Each-mapped (frame_state names) (frame_state others) (λ depth frame. IsFrameFormed one frame)
        (λ depth frame. IsFrameFormed other frame) (reverse cell.frames) frame_formed
        (subst (λ (frames : List FrameState). Each frames (λ depth frame. IsFrameFormed one frame))
        (reverse-map (frame_state names) cell.frames) formed.frames_formed));
    result_there = λ value is. value_there value (formed.result_there value is);
    ended = λ result is.
        let was = formed.ended result is in (no_frames names others was.0, was.1);
    unfinished = λ is none. formed.unfinished is (no_frames others names none);
    holds_cog = λ runs.
        let was = formed.holds_cog runs in record { entry = was.entry; there = was.there; holds = was.holds };
  }
    where
      no_frames : (these those : List Name) → (task_state these cell).frames ≡ [] → (task_state those cell).frames ≡ []
      no_frames these those none = reverse-map (frame_state those) cell.frames
          ∙ map-none (frame_state these) (frame_state those) (reverse cell.frames)
          (sym (reverse-map (frame_state these) cell.frames) ∙ none)

  -- a configuration that is well-formed with one table of names is well-formed with another one
  pub formed_of_names : IsWellFormed one → IsWellFormed other
  formed_of_names formed = record {
    cogs_formed = λ index cog is. cog_formed index cog (formed.cogs_formed index cog is);
    objects_formed = Each-mapped (object_state names) (object_state others) (λ index. IsObjectFormed one)
        (λ index. IsObjectFormed other) objects object_formed formed.objects_formed;
    tasks_formed = Each-mapped (task_state names) (task_state others) (IsTaskFormed one) (IsTaskFormed other) tasks
        task_formed formed.tasks_formed;
  }
