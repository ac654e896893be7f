-- Frames at the start of a body, and the tasks that have one: a new task, one that calls a method of its own object,
-- and that of the main block.
--
--   `start_slot`               what is in a slot at the start is an argument or null
--   `starts_typed`             a frame at the start of a body is well typed
--   `new_task_typed`           so is a new task of a method
--   `pushes_typed`             so is a task that goes on in a method of its own object
--   `first_typed`              and so is the first configuration of a program
use Rattle.std.proofs.Common.{◌≡◌, ◌⊎◌, ⊎_elim, ◌<◌, ◌-◌, ℕ, true, inl, inr, List, [], ◌∷◌, ◌++◌, length, replicate, slice_get, Option, Some, None, refl, sym, ap, ◌∙◌, subst}
use Rattle.std.proofs.lemmas.Option.{same_Some, none-some}
use Rattle.std.specs.Prelude.{option_and_then}
use Rattle.abs_program.specs.ProgramBodies.{entry_of_body}
use Rattle.abs_tree.specs.Syntax.{Name, ProgramTree}
use Rattle.abs_types.specs.OperatorTypes.{unit_type}
use Rattle.abs_types.specs.PlainTypes.{PlainType}
use Rattle.abs_types.specs.Subtyping.{fits}
use Rattle.abs_types.specs.Typing.{known_at}
use Rattle.abs_values.specs.ValueTrees.{ValueTree, NullValue}
use Rattle.config_state.proofs.EachLemmas.{Each-none, Each-one, Each-replicate}
use Rattle.config_state.specs.Bodies.{main_at}
use Rattle.config_state.specs.Configurations.{ObjectState, FrameState, Configuration, object_at}
use Rattle.config_state.specs.First.{frame_for, first}
use Rattle.config_state.specs.declared.frame.Target.{Target}
use Rattle.config_state.specs.declared.frame.Target.TheVariants.{Nothing, Local}
use Rattle.list_facts.proofs.EntryLemmas.{slice_get-append, slice_get-before}
use Rattle.step_rules.specs.Changes.{Change, configuration_after}
use Rattle.step_rules.specs.Lookups.{Runner}
use Rattle.step_rules.specs.NewEntries.{task_for}
use Rattle.step_rules.specs.RuleParts.{IsRunner}
use Rattle.type_sound.proofs.Events.{ValueIn, IsEvent}
use Rattle.type_sound.proofs.FrameLemmas.{AreFramesTyped, frames_none, frames_first, frames_more, frames_moved, open_task_typed}
use Rattle.type_sound.proofs.GoingLemmas.{runner_routine}
use Rattle.type_sound.proofs.GrowthLemmas.{found_stays}
use Rattle.type_sound.proofs.KeptLemmas.{runner_frames}
use Rattle.type_sound.proofs.PutLemmas.{frame_takes}
use Rattle.type_sound.specs.Routines.{Routine, main_routine, method_routine, routine_found, routine_of}
use Rattle.type_sound.specs.Visible.{IsVisible}
use Rattle.type_sound.specs.WellTyped.{IsFrameTyped, target_type_in, FitsTarget, IsTaskTyped, IsWellTyped}

-- what is in a slot at the start of a body is an argument, or null
pub start_slot : (arguments : List ValueTree) (others slot : ℕ) (value : ValueTree)
    → slice_get (arguments ++ replicate others NullValue) slot ≡ Some value
    → (slice_get arguments slot ≡ Some value) ⊎ (value ≡ NullValue)
start_slot arguments others slot value is =
    ⊎_elim (λ own. inl own)
    (λ other. inr (Each-replicate (λ (one : ValueTree). one ≡ NullValue) others NullValue refl other.0 value other.1))
    (slice_get-append arguments (replicate others NullValue) slot value is)

-- what is in the slot of a parameter is the argument
param_slot : (arguments : List ValueTree) (others params slot : ℕ) (value : ValueTree) → length arguments ≡ params
    → slot < params → slice_get (arguments ++ replicate others NullValue) slot ≡ Some value
    → slice_get arguments slot ≡ Some value
param_slot arguments others params slot value count within is =
    sym (slice_get-before arguments (replicate others NullValue) slot
    (subst (λ (all : ℕ). slot < all) (sym count) within)) ∙ is

-- A frame at the start of a body is well typed, if there are as many arguments as parameters, and they have their
-- types; if only parameters are visible at the first statement; and if the result type is `Unit` where there is none.
pub starts_typed : (program : ProgramTree) (config : Configuration) (pending : Target) (routine : Routine)
    (method : Option Name) (object : Option ℕ) (arguments : List ValueTree) (target : Target)
    → routine_of program config (frame_for (entry_of_body routine.body) method object arguments target) ≡ Some routine
    → length arguments ≡ routine.body.params
    → ((slot : ℕ) (value : ValueTree) (type : PlainType) → slice_get arguments slot ≡ Some value
    → known_at routine.slots slot ≡ Some type → ValueIn program config value type)
    → ((statement slot : ℕ) → (entry_of_body routine.body).first ≡ Some statement
    → IsVisible program statement slot → slot < routine.body.params)
    → ((entry_of_body routine.body).first ≡ None → routine.result ≡ unit_type)
    → IsFrameTyped program config pending (frame_for (entry_of_body routine.body) method object arguments target)
starts_typed program config pending routine method object arguments target there count have sees begins =
    let others = (entry_of_body routine.body).slots - routine.body.params in
    record {
      routine = routine;
      there = there;
      slots = λ slot value type found known. ⊎_elim (λ own. inr (have slot value type own known)) (λ null. inl null)
          (start_slot arguments others slot value found);
      params = λ slot within value type found known. have slot value type
          (param_slot arguments others routine.body.params slot value count within found) known;
      seen = λ statement slot goes visible apart value type found known. have slot value type
          (param_slot arguments others routine.body.params slot value count (sees statement slot goes visible) found)
          known;
      ends = begins;
    }

-- A new task of a method is well typed, if its object is there, and its arguments are as for a frame at the start.
pub new_task_typed : (program : ProgramTree) (config : Configuration) (cog object : ℕ) (cell : ObjectState)
    (method : Name) (call : Option ℕ) (arguments : List ValueTree) (routine : Routine)
    → slice_get config.objects object ≡ Some cell → method_routine program cell.class method ≡ Some routine
    → length arguments ≡ routine.body.params
    → ((slot : ℕ) (value : ValueTree) (type : PlainType) → slice_get arguments slot ≡ Some value
    → known_at routine.slots slot ≡ Some type → ValueIn program config value type)
    → ((statement slot : ℕ) → (entry_of_body routine.body).first ≡ Some statement
    → IsVisible program statement slot → slot < routine.body.params)
    → ((entry_of_body routine.body).first ≡ None → routine.result ≡ unit_type)
    → IsTaskTyped program config (task_for routine.body cog object method call arguments)
new_task_typed program config cog object cell method call arguments routine there is count have sees begins =
    let frame = frame_for (entry_of_body routine.body) (Some method) (Some object) arguments Nothing in
    open_task_typed program config (task_for routine.body cog object method call arguments) (frame ∷ []) refl refl
    (frames_more program config Nothing frame []
    (starts_typed program config Nothing routine (Some method) (Some object) arguments Nothing
    (ap (λ (found : Option ObjectState). routine_found program found (Some method)) there ∙ is) count have sees begins)
    (λ below none. absurd (none-some below none)) (frames_none program config Nothing))

module _ (program : ProgramTree) (config : Configuration) (index : ℕ) (change : Change)
    (event : IsEvent program config index change) (at : Runner) (same : at.index ≡ index)
    (runner : IsRunner config at) (routine : Routine) (there : routine_of program config at.frame ≡ Some routine)
    (callee : Routine) (method : Name) (arguments : List ValueTree) (target : Target) (next : Option ℕ)
    (found : routine_found program (object_at config at.frame.object) (Some method) ≡ Some callee) where
  -- the configuration after the event
  abbrev after : Configuration
  after = configuration_after config index change

  -- the new frame, and the frame that calls
  abbrev called : FrameState
  called = frame_for (entry_of_body callee.body) (Some method) at.frame.object arguments target

  abbrev calling : FrameState
  calling = record at.frame { next = next }

  -- the routine of the frame that calls
  calling_routine : routine_of program after at.frame ≡ Some routine
  calling_routine = runner_routine program config index change event at runner routine there

  -- that of the new frame
  called_routine : routine_of program after called ≡ Some callee
  called_routine = found_stays program config index change event at.frame.object (Some method)
      ((event.formed.tasks_formed at.index at.task runner.there).frames_formed 0 at.frame
      (ap (λ (frames : List FrameState). slice_get frames 0) runner.frames_are)).object_there ∙ found

  -- the result type of the new frame fits the type that its target takes in the frame that calls
  called_fits : ((type : PlainType) → target_type_in routine target ≡ Some type
      → fits program.source.declarations callee.result type ≡ true) → FitsTarget program after called calling
  called_fits fit = record {
    fit = λ one type one_is takes. subst
        (λ (own : Routine). fits program.source.declarations own.result type ≡ true)
        (same_Some callee one (sym called_routine ∙ one_is))
        (fit type (ap (option_and_then (λ (own : Routine). target_type_in own target)) (sym calling_routine) ∙ takes));
  }

  -- A task that calls a method of its own object is well typed: the new frame is as at the start of the method, and the
  -- result type of the method fits the type that the target takes in the frame that calls, which goes on as one does to
  -- whose target a value goes.
  pub pushes_typed : change.task.frames
      ≡ frame_for (entry_of_body callee.body) (Some method) at.frame.object arguments target
      ∷ record at.frame { next = next } ∷ at.others
      → change.task.outcome ≡ None → length arguments ≡ callee.body.params
      → ((slot : ℕ) (value : ValueTree) (type : PlainType) → slice_get arguments slot ≡ Some value
      → known_at callee.slots slot ≡ Some type → ValueIn program after value type)
      → ((statement slot : ℕ) → (entry_of_body callee.body).first ≡ Some statement
      → IsVisible program statement slot → slot < callee.body.params)
      → ((entry_of_body callee.body).first ≡ None → callee.result ≡ unit_type)
      → ((type : PlainType) → target_type_in routine target ≡ Some type
      → fits program.source.declarations callee.result type ≡ true)
      → ((statement slot : ℕ) → next ≡ Some statement → IsVisible program statement slot
      → ((before : ℕ) × (at.frame.next ≡ Some before) × IsVisible program before slot) ⊎ (target ≡ Local slot))
      → (next ≡ None → routine.result ≡ unit_type) → IsTaskTyped program after change.task
  pushes_typed frames_are none count have begins_seeing begins fit sees ends =
      let are : AreFramesTyped program after Nothing (at.frame ∷ at.others) =
      runner_frames program config index change event at runner in
      open_task_typed program after change.task (called ∷ calling ∷ at.others) frames_are none
      (frames_more program after Nothing called (calling ∷ at.others)
      (starts_typed program after Nothing callee (Some method) at.frame.object arguments target called_routine count
      have begins_seeing begins)
      (λ below first. subst (FitsTarget program after called) (same_Some calling below first) (called_fits fit))
      (frames_moved program after Nothing target at.frame at.others at.frame.slots next are
      (frame_takes program after at.frame Nothing (frames_first program after Nothing at.frame at.others are) routine
      calling_routine target Nothing NullValue next (λ type takes. absurd (none-some type takes))
      (λ statement slot goes visible apart.
      ⊎_elim (λ old. inl (old.0, old.1, old.2, λ nothing. absurd cc)) (λ own. absurd (apart own))
      (sees statement slot goes visible)) ends)))

-- The first configuration of a program is well typed, if nothing is visible at the first statement of the main block.
pub first_typed : (program : ProgramTree)
    → ((statement slot : ℕ) → (entry_of_body (main_at program)).first ≡ Some statement
    → IsVisible program statement slot → slot < (main_at program).params)
    → IsWellTyped program (first program)
first_typed program sees =
    let frame = frame_for (entry_of_body (main_at program)) None None [] Nothing in
    record {
      objects = Each-none _;
      tasks = Each-one (λ index task. IsTaskTyped program (first program) task) _
          (open_task_typed program (first program) _ (frame ∷ []) refl refl
          (frames_more program (first program) Nothing frame []
          (starts_typed program (first program) Nothing (main_routine program) None None [] Nothing refl refl
          (λ slot value type found known. absurd (none-some value found)) sees (λ none. refl))
          (λ below none. absurd (none-some below none)) (frames_none program (first program) Nothing)));
    }
