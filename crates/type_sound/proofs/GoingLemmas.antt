-- The task that moves goes on after a value went to a target in its innermost frame, or in the frame below the one that
-- returned.
--
--   `runner_routine`           the routine of the frame in which the task runs
--   `puts_written`             what is written has the types of the fields, where a value went to a target in a frame
--   `GoesUp`                   a value of a type has each type that this one fits
--   `goes_on_typed`, `goes_on_written`     the task goes on in its innermost frame
--   `pops_typed`, `pops_written`           the task goes on in the frame below
use Rattle.std.proofs.Common.{◌≡◌, ◌⊎◌, ⊎_elim, ℕ, true, inl, inr, List, ◌∷◌, slice_get, Option, Some, None, refl, sym, ap, ◌∙◌, subst}
use Rattle.std.specs.Option.{option_map}
use Rattle.std.specs.Prelude.{option_and_then}
use Rattle.abs_tree.specs.Syntax.{ProgramTree}
use Rattle.abs_types.specs.OperatorTypes.{unit_type}
use Rattle.abs_types.specs.PlainTypes.{PlainType}
use Rattle.abs_types.specs.Subtyping.{fits}
use Rattle.abs_values.specs.ValueTrees.{ValueTree}
use Rattle.config_state.specs.Configurations.{ObjectState, FrameState, Configuration, object_at, fields_of}
use Rattle.config_state.specs.declared.frame.Target.{Target}
use Rattle.config_state.specs.declared.frame.Target.TheVariants.{Nothing, Local}
use Rattle.step_rules.proofs.AfterLemmas.{written-own}
use Rattle.step_rules.specs.Changes.{Written, Change, configuration_after}
use Rattle.step_rules.specs.Lookups.{Runner}
use Rattle.step_rules.specs.ObjectRules.{goes_on}
use Rattle.step_rules.specs.RuleParts.{IsRunner}
use Rattle.step_rules.specs.Targets.{slots_after, fields_after}
use Rattle.step_rules.specs.declared.kind.Did.{Did}
use Rattle.type_sound.proofs.Events.{ValueIn, IsEvent}
use Rattle.type_sound.proofs.FrameLemmas.{AreFramesTyped, frames_first, frames_fit, frames_rest, frames_moved, open_task_typed}
use Rattle.type_sound.proofs.GrowthLemmas.{routine_stays, value_stays}
use Rattle.type_sound.proofs.KeptLemmas.{runner_frames}
use Rattle.type_sound.proofs.PutLemmas.{same_or_not, field_after, frame_takes, class_fields}
use Rattle.type_sound.specs.Routines.{Routine, fields_of_class, routine_found, routine_of}
use Rattle.type_sound.specs.Visible.{IsVisible}
use Rattle.type_sound.specs.WellTyped.{IsFrameTyped, target_type_in, FitsTarget, IsTaskTyped}

-- A value of a type has each type that this one fits.
abbrev pub GoesUp : ProgramTree → Configuration → Type 0
GoesUp program config = (value : ValueTree) (one other : PlainType)
    → fits program.source.declarations one other ≡ true → ValueIn program config value one
    → ValueIn program config value other

module _ (program : ProgramTree) (config : Configuration) (index : ℕ) (change : Change)
    (event : IsEvent program config index change) where
  -- the configuration after the event
  abbrev after : Configuration
  after = configuration_after config index change

  -- the routine of the frame in which the task runs, after the event
  pub runner_routine : (at : Runner) → IsRunner config at → (routine : Routine)
      → routine_of program config at.frame ≡ Some routine → routine_of program after at.frame ≡ Some routine
  runner_routine at runner routine there =
      routine_stays program config index change event at.index 0 at.task at.frame runner.there
      (ap (λ (frames : List FrameState). slice_get frames 0) runner.frames_are) ∙ there

  -- what is written has the types of the fields of the object, if a value went to a target in a frame of it, and the
  -- value has the type that the target takes
  puts_written : (frame : FrameState) (routine : Routine) → routine_of program config frame ≡ Some routine
      → (target : Target) (value : ValueTree)
      → change.written ≡ option_map (λ (object : ℕ). record {
        object = object;
        fields = fields_after target value (fields_of (object_at config frame.object));
      }) frame.object
      → ((type : PlainType) → target_type_in routine target ≡ Some type → ValueIn program after value type)
      → (written : Written) (cell : ObjectState) → change.written ≡ Some written
      → slice_get config.objects written.object ≡ Some cell → (field : ℕ) (held : ValueTree) (type : PlainType)
      → slice_get written.fields field ≡ Some held → slice_get (fields_of_class program cell.class) field ≡ Some type
      → ValueIn program after held type
  puts_written frame routine routine_is target value puts takes written cell writes there field held type is known =
      let own = written-own frame.object (fields_after target value (fields_of (object_at config frame.object)))
      written (sym puts ∙ writes) in
      let cell_at : object_at config frame.object ≡ Some cell = ap (object_at config) own.0 ∙ there in
      let fields_are = class_fields program cell frame.method routine
      (ap (λ (found : Option ObjectState). routine_found program found frame.method) (sym cell_at) ∙ routine_is) in
      ⊎_elim
      (λ now. subst (λ (one : ValueTree). ValueIn program after one type) now.1
      (takes type (ap (target_type_in routine) now.0
      ∙ (ap (λ (all : List PlainType). slice_get all field) fields_are ∙ known))))
      (λ old. value_stays program config index change event held type
      ((event.typed.objects written.object cell there).fields field held type old known))
      (field_after target value cell.fields field held
      (ap (λ (found : Option ObjectState). slice_get (fields_after target value (fields_of found)) field) (sym cell_at)
      ∙ (ap (λ (all : List ValueTree). slice_get all field) (sym own.1) ∙ is)))

  -- A task is well typed after a value went to a target in its innermost frame, which goes on: the value has the type
  -- that the target takes; each slot that is visible next was visible before, or is the target; and where no statement
  -- is left, the result type is `Unit`.
  pub goes_on_typed : (at : Runner) → at.index ≡ index → IsRunner config at → (routine : Routine)
      → routine_of program config at.frame ≡ Some routine → (target : Target) (value : ValueTree) (next : Option ℕ)
      → change.task.frames
      ≡ record at.frame { slots = slots_after target value at.frame.slots; next = next } ∷ at.others
      → change.task.outcome ≡ None
      → ((type : PlainType) → target_type_in routine target ≡ Some type → ValueIn program after value type)
      → ((statement slot : ℕ) → next ≡ Some statement → IsVisible program statement slot
      → ((before : ℕ) × (at.frame.next ≡ Some before) × IsVisible program before slot) ⊎ (target ≡ Local slot))
      → (next ≡ None → routine.result ≡ unit_type) → IsTaskTyped program after change.task
  goes_on_typed at same runner routine there target value next frames_are none takes sees ends =
      let are = runner_frames program config index change event at runner in
      let moved = record at.frame { slots = slots_after target value at.frame.slots; next = next } in
      open_task_typed program after change.task (moved ∷ at.others) frames_are none
      (frames_moved program after Nothing Nothing at.frame at.others (slots_after target value at.frame.slots) next are
      (frame_takes program after at.frame Nothing (frames_first program after Nothing at.frame at.others are) routine
      (runner_routine at runner routine there) Nothing target value next takes
      (λ statement slot goes visible apart.
      ⊎_elim (λ old. inl (old.0, old.1, old.2, λ nothing. absurd cc)) (λ own. inr own)
      (sees statement slot goes visible)) ends))

  -- What it writes has the types of the fields of the object of its innermost frame.
  pub goes_on_written : (at : Runner) → IsRunner config at → (routine : Routine)
      → routine_of program config at.frame ≡ Some routine → (target : Target) (value : ValueTree) (next : Option ℕ)
      (lines : List (List ℕ)) (kind : Did)
      → change.written ≡ (goes_on config index at.task target value next at.frame at.others lines kind).written
      → ((type : PlainType) → target_type_in routine target ≡ Some type → ValueIn program after value type)
      → (written : Written) (cell : ObjectState) → change.written ≡ Some written
      → slice_get config.objects written.object ≡ Some cell → (field : ℕ) (held : ValueTree) (type : PlainType)
      → slice_get written.fields field ≡ Some held → slice_get (fields_of_class program cell.class) field ≡ Some type
      → ValueIn program after held type
  goes_on_written at runner routine there target value next lines kind puts takes =
      puts_written at.frame routine there target value puts takes

  -- the frames of a task that runs in one frame above another
  two_frames : (at : Runner) → IsRunner config at → (below : FrameState) (rest : List FrameState)
      → at.others ≡ below ∷ rest → AreFramesTyped program after Nothing (at.frame ∷ below ∷ rest)
  two_frames at runner below rest others_are =
      subst (λ (others : List FrameState). AreFramesTyped program after Nothing (at.frame ∷ others)) others_are
      (runner_frames program config index change event at runner)

  -- the value with which a frame ends has the type that its target takes in the frame below
  pops_takes : (at : Runner) → IsRunner config at → (below : FrameState) (rest : List FrameState)
      → at.others ≡ below ∷ rest → (routine : Routine) → routine_of program config at.frame ≡ Some routine
      → (value : ValueTree) → ValueIn program after value routine.result → GoesUp program after
      → (lower : Routine) → routine_of program after below ≡ Some lower → (type : PlainType)
      → target_type_in lower at.frame.target ≡ Some type → ValueIn program after value type
  pops_takes at runner below rest others_are routine there value has up lower lower_is type takes =
      let fitting : FitsTarget program after at.frame below = frames_fit program after Nothing at.frame (below ∷ rest)
      (two_frames at runner below rest others_are) below refl in
      up value routine.result type (fitting.fit routine type (runner_routine at runner routine there)
      (ap (option_and_then (λ (one : Routine). target_type_in one at.frame.target)) lower_is ∙ takes)) has

  -- A task is well typed after the innermost frame returned a value of its result type to the frame below. What is
  -- visible there is well typed then: its target was the one slot that need not be.
  pub pops_typed : (at : Runner) → at.index ≡ index → IsRunner config at → (below : FrameState)
      (rest : List FrameState) → at.others ≡ below ∷ rest → (routine : Routine)
      → routine_of program config at.frame ≡ Some routine → (value : ValueTree)
      → ValueIn program after value routine.result
      → change.task.frames
      ≡ record below { slots = slots_after at.frame.target value below.slots; next = below.next } ∷ rest
      → change.task.outcome ≡ None → GoesUp program after → IsTaskTyped program after change.task
  pops_typed at same runner below rest others_are routine there value has frames_are none up =
      let target = at.frame.target in
      let slots = slots_after target value below.slots in
      let are = frames_rest program after Nothing at.frame (below ∷ rest)
      (two_frames at runner below rest others_are) in
      let typed : IsFrameTyped program after target below = frames_first program after target below rest are in
      open_task_typed program after change.task (record below { slots = slots; next = below.next } ∷ rest) frames_are
      none
      (frames_moved program after target Nothing below rest slots below.next are
      (frame_takes program after below target typed typed.routine typed.there Nothing target value below.next
      (pops_takes at runner below rest others_are routine there value has up typed.routine typed.there)
      (λ statement slot goes visible apart.
      ⊎_elim (λ own. inr own) (λ other. inl (statement, goes, visible, other)) (same_or_not target slot))
      typed.ends))

  -- What it writes has the types of the fields of the object of that frame.
  pub pops_written : (at : Runner) → IsRunner config at → (below : FrameState) (rest : List FrameState)
      → at.others ≡ below ∷ rest → (routine : Routine) → routine_of program config at.frame ≡ Some routine
      → (value : ValueTree) → ValueIn program after value routine.result → (lines : List (List ℕ)) (kind : Did)
      → change.written
      ≡ (goes_on config index at.task at.frame.target value below.next below rest lines kind).written
      → GoesUp program after → (written : Written) (cell : ObjectState) → change.written ≡ Some written
      → slice_get config.objects written.object ≡ Some cell → (field : ℕ) (held : ValueTree) (type : PlainType)
      → slice_get written.fields field ≡ Some held → slice_get (fields_of_class program cell.class) field ≡ Some type
      → ValueIn program after held type
  pops_written at runner below rest others_are routine there value has lines kind puts up =
      let below_at : slice_get at.task.frames 1 ≡ Some below =
      ap (λ (frames : List FrameState). slice_get frames 1) runner.frames_are
      ∙ ap (λ (frames : List FrameState). slice_get frames 0) others_are in
      let typed = (event.typed.tasks at.index at.task runner.there).frames 1 below below_at in
      puts_written below typed.routine typed.there at.frame.target value puts
      (pops_takes at runner below rest others_are routine there value has up typed.routine
      (routine_stays program config index change event at.index 1 at.task below runner.there below_at ∙ typed.there))
