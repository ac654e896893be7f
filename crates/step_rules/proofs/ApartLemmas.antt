-- An event of a task of another cog leaves the input of a task as it was, and its event.
--
--   `unfinished_before`                    a task that is unfinished after a change was so before it
--   `away_stays`                           a task of another cog than the moved one is as before
--   `object_same`, `input_stays`           so is the object of a frame of it, and its input
--   `free_stays`, `resolved_stays`         its cog is still free, and its futures are still resolved
--   `open_get_before`                      if it is at a get of an unresolved future, it was so before
--   `event_stays`                          an event that it had it still has
--   `input_apart`, `event_apart`           what an event of a task of another cog leaves
use Rattle.std.proofs.Common.{◌≡◌, ◌≢◌, ◌⊎◌, ◌<◌, ℕ, inl, inr, List, [], ◌∷◌, length, slice_get, Option, Some, None, refl, sym, ap, ◌∙◌, subst}
use Rattle.std.proofs.lemmas.Bool.{cases_eq}
use Rattle.std.proofs.lemmas.Option.{same_Some}
use Rattle.std.specs.Prelude.{IsSome, is_some}
use Rattle.abs_values.specs.References.{ToFuture, IsIn}
use Rattle.abs_values.specs.Results.{Result}
use Rattle.abs_tree.specs.Syntax.{NoExpr, ProgramTree}
use Rattle.abs_values.specs.ValueTrees.{FutureValue}
use Rattle.abs_program.specs.Whole.{IsWhole}
use Rattle.config_state.specs.Configurations.{ObjectState, FrameState, TaskState, Configuration, object_at, fields_of, IsUnfinished}
use Rattle.config_state.specs.OfProgram.{next_point, IsConfigOf}
use Rattle.config_state.specs.WellFormed.{IsWellFormed}
use Rattle.config_state.specs.declared.task.State.{State}
use Rattle.config_state.specs.declared.task.State.TheVariants.{Ready, Running, Awaiting}
use Rattle.step_rules.proofs.AfterLemmas.{task-away, object-kept}
use Rattle.step_rules.proofs.CauseLemmas.{ended_has_none, running_has_none_iff, ready_has_iff, awaiting_has_iff}
use Rattle.step_rules.proofs.FormedRuleLemmas.{event-formed}
use Rattle.step_rules.proofs.KeepLemmas.{event_keeps_program}
use Rattle.step_rules.proofs.StayLemmas.{change_stays, event_change}
use Rattle.step_rules.specs.Blocked.{IsAtOpenGet, IsFree, AreResolved}
use Rattle.step_rules.specs.Changes.{Change, configuration_after}
use Rattle.step_rules.specs.Events.{Step, event_of}
use Rattle.step_rules.specs.Homes.{IsHoused}
use Rattle.step_rules.specs.Inputs.{initials_at, exprs_at, input_in, input_with, input_of_task, input_of}
use Rattle.step_rules.specs.Stays.{Stays}
use Rattle.list_facts.proofs.EntryLemmas.{slice_get-there}

-- a future is inside its own value
inside_future : (task : ℕ) → IsIn (ToFuture task) (FutureValue task)
unfolding IsIn
inside_future task = refl

-- a task that is unfinished after a change was so before it, if it was there
pub unfinished_before : (config : Configuration) (index : ℕ) (change : Change) (other : ℕ) → Stays config index change
    → other < length config.tasks → IsUnfinished (configuration_after config index change) other
    → IsUnfinished config other
unfinished_before config index change other stays within unfinished = by_index (cases_eq other index)
  where
    by_index : (other ≡ index) ⊎ (other ≢ index) → IsUnfinished config other
    by_index (inl same) = record {
      task = stays.task;
      there = ap (slice_get config.tasks) same ∙ stays.there;
      open_still = stays.had_no_result;
    }
    by_index (inr differs) =
        let old = slice_get-there config.tasks other within in
        let kept : old.0 ≡ unfinished.task =
        same_Some old.0 unfinished.task (sym (stays.tasks_stay other old.0 old.1 differs) ∙ unfinished.there) in
        record {
          task = old.0;
          there = old.1;
          open_still = ap (λ (one : TaskState). one.outcome) kept ∙ unfinished.open_still;
        }

-- the input in a frame whose object is as before
input_in_same : (program : ProgramTree) (config after : Configuration) (state : State) (frame : FrameState)
    → object_at after frame.object ≡ object_at config frame.object
    → input_in program after state frame ≡ input_in program config state frame
input_in_same program config after Running frame same = ap (λ (object : Option ObjectState). record {
  scope = record { this = frame.object; slots = frame.slots; fields = fields_of object; bound = [] };
  expr_trees = exprs_at (next_point program frame);
  initials = initials_at program (next_point program frame);
}) same
input_in_same program config after Ready frame same = ap (λ (object : Option ObjectState). record {
  scope = record { this = frame.object; slots = frame.slots; fields = fields_of object; bound = [] };
  expr_trees = NoExpr;
  initials = NoExpr;
}) same
input_in_same program config after Awaiting frame same = ap (λ (object : Option ObjectState). record {
  scope = record { this = frame.object; slots = frame.slots; fields = fields_of object; bound = [] };
  expr_trees = NoExpr;
  initials = NoExpr;
}) same

-- the input of frames, of which the innermost one's object is as before
input_same : (program : ProgramTree) (config after : Configuration) (state : State) (frames : List FrameState)
    → ((frame : FrameState) → slice_get frames 0 ≡ Some frame
    → object_at after frame.object ≡ object_at config frame.object)
    → input_with program after state frames ≡ input_with program config state frames
input_same program config after state [] same = refl
input_same program config after state (frame ∷ others) same =
    ap Some (input_in_same program config after state frame (same frame refl))

module _ (program : ProgramTree) (config : Configuration) (index other : ℕ) (change : Change) (task moved : TaskState)
    (stays : Stays config index change) (moved_there : slice_get config.tasks index ≡ Some moved)
    (there : slice_get config.tasks other ≡ Some task) (apart : task.cog ≢ moved.cog) where
  -- the task is as before
  away_stays : slice_get (configuration_after config index change).tasks other ≡ Some task
  away_stays = task-away config index change other task moved moved_there there apart

  -- it is not of the cog of the moved task
  stays_apart : task.cog ≢ stays.task.cog
  stays_apart same = apart (same ∙ ap (λ (one : TaskState). one.cog)
      (same_Some stays.task moved (sym stays.there ∙ moved_there)))

  -- the object of a frame of it is as before
  object_same : IsHoused program config → (depth : ℕ) (frame : FrameState) → slice_get task.frames depth ≡ Some frame
      → (object : Option ℕ) → frame.object ≡ object
      → object_at (configuration_after config index change) object ≡ object_at config object
  object_same housed depth frame frame_there None is = refl
  object_same housed depth frame frame_there (Some at) is =
      let home = (housed.tasks_housed other task there).frames depth frame frame_there at is in
      object-kept config index change at home.0 home.1 (λ written writes same.
      let own = stays.writes_own written writes in
      let its = (housed.tasks_housed index stays.task stays.there).frames own.0 own.1 own.2 written.object own.3 in
      let cell_is : home.0 ≡ its.0 =
      same_Some home.0 its.0 (sym home.1 ∙ (ap (slice_get config.objects) same ∙ its.1)) in
      stays_apart (sym home.2 ∙ (ap (λ (one : ObjectState). one.cog) cell_is ∙ its.2)))
      ∙ sym home.1

  -- its input is as before
  input_stays : IsHoused program config
      → input_of program (configuration_after config index change) other ≡ input_of program config other
  unfolding input_of
  input_stays housed =
      ap (input_of_task program (configuration_after config index change)) away_stays
      ∙ (input_same program config (configuration_after config index change) task.state task.frames
      (λ frame frame_there. object_same housed 0 frame frame_there frame.object refl)
      ∙ sym (ap (input_of_task program config) there))

  -- its cog is still free
  free_stays : IsFree config task.cog → IsFree (configuration_after config index change) task.cog
  free_stays free =
      let after = stays.cogs_stay task.cog free.cog free.there in
      record { cog = after.0; there = after.1; free = after.4 stays_apart ∙ free.free }

  -- a future in a slot of its innermost frame that is unresolved was so before
  future_before : IsWellFormed config → (frame : FrameState) (slot future : ℕ)
      → slice_get task.frames 0 ≡ Some frame → slice_get frame.slots slot ≡ Some (FutureValue future)
      → IsUnfinished (configuration_after config index change) future → IsUnfinished config future
  future_before formed frame slot future frame_there holds unfinished =
      let slots_there = ((formed.tasks_formed other task there).frames_formed 0 frame frame_there).slots_there in
      unfinished_before config index change future stays
      (slots_there slot (FutureValue future) holds (ToFuture future) (inside_future future)) unfinished

  -- its futures are still resolved
  resolved_stays : IsWellFormed config → AreResolved program config task
      → AreResolved program (configuration_after config index change) task
  resolved_stays formed resolved = record {
    frame = resolved.frame;
    innermost = resolved.innermost;
    point = resolved.point;
    point_there = resolved.point_there;
    names = resolved.names;
    awaits = resolved.awaits;
    resolved = λ part name at slot future named holds unfinished. resolved.resolved part name at slot future named holds
        (future_before formed resolved.frame slot future resolved.innermost holds unfinished);
  }

  -- if it is at a get of an unresolved future, it was so before
  open_get_before : IsWellFormed config → IsAtOpenGet program (configuration_after config index change) task
      → IsAtOpenGet program config task
  open_get_before formed at_get = record {
    frame = at_get.frame;
    innermost = at_get.innermost;
    point = at_get.point;
    point_there = at_get.point_there;
    slot = at_get.slot;
    target = at_get.target;
    gets = at_get.gets;
    future = at_get.future;
    holds = at_get.holds;
    unresolved =
        future_before formed at_get.frame at_get.slot at_get.future at_get.innermost at_get.holds at_get.unresolved;
  }

  module _ (formed : IsWellFormed config) (of_program : IsConfigOf program config)
      (after_formed : IsWellFormed (configuration_after config index change))
      (after_of_program : IsConfigOf program (configuration_after config index change)) where
    -- an event that a running task had it still has
    running_event : task.state ≡ Running → IsSome (event_of program config other)
        → IsSome (event_of program (configuration_after config index change) other)
    running_event runs has = by_event (event_of program (configuration_after config index change) other) refl
      where
        by_event : (found : Option Step)
            → event_of program (configuration_after config index change) other ≡ found
            → IsSome (event_of program (configuration_after config index change) other)
        by_event (Some step) is = ap is_some is
        by_event None is =
            let at_get = (running_has_none_iff program (configuration_after config index change) other task after_formed
            after_of_program away_stays runs).0 is in
            let none = (running_has_none_iff program config other task formed of_program there runs).1
            (open_get_before formed at_get) in
            absurd (cc (sym has ∙ ap is_some none))

    -- an event that a task had it still has
    event_stays : (state : State) → task.state ≡ state → task.outcome ≡ None → IsSome (event_of program config other)
        → IsSome (event_of program (configuration_after config index change) other)
    event_stays Running is open_still has = running_event is has
    event_stays Ready is open_still has =
        (ready_has_iff program (configuration_after config index change) other task after_formed away_stays open_still
        is).1 (free_stays ((ready_has_iff program config other task formed there open_still is).0 has))
    event_stays Awaiting is open_still has =
        let before = (awaiting_has_iff program config other task formed of_program there is).0 has in
        (awaiting_has_iff program (configuration_after config index change) other task after_formed after_of_program
        away_stays is).1 (free_stays before.0, resolved_stays formed before.1)

-- an event of a task of another cog leaves the input of a task as it was
pub input_apart : (program : ProgramTree) (config : Configuration) (index other : ℕ) (step : Step)
    (task moved : TaskState) → IsHoused program config → slice_get config.tasks index ≡ Some moved
    → slice_get config.tasks other ≡ Some task → task.cog ≢ moved.cog → event_of program config index ≡ Some step
    → input_of program step.config other ≡ input_of program config other
input_apart program config index other step task moved housed moved_there there apart is =
    let found = event_change program config index step is in
    let stays = change_stays program config index found.0 found.1 in
    ap (λ (one : Step). input_of program one.config other) found.2
    ∙ input_stays program config index other found.0 task moved stays moved_there there apart housed

-- a task that has an event has no result
open_with_event : (program : ProgramTree) (config : Configuration) (index : ℕ) (task : TaskState)
    → slice_get config.tasks index ≡ Some task → IsSome (event_of program config index) → task.outcome ≡ None
open_with_event program config index task there has = by_outcome task.outcome refl
  where
    by_outcome : (outcome : Option Result) → task.outcome ≡ outcome → task.outcome ≡ None
    by_outcome None is = is
    by_outcome (Some result) is = absurd (cc (sym has ∙ ap is_some
        (ended_has_none program config index task there (ap is_some is))))

-- and an event that this task had it still has
pub event_apart : (program : ProgramTree) (config : Configuration) (index other : ℕ) (step : Step)
    (task moved : TaskState) → IsWellFormed config → IsConfigOf program config → IsHoused program config
    → IsWhole program.source
    → slice_get config.tasks index ≡ Some moved → slice_get config.tasks other ≡ Some task
    → task.cog ≢ moved.cog → event_of program config index ≡ Some step
    → IsSome (event_of program config other) → IsSome (event_of program step.config other)
event_apart program config index other step task moved formed of_program housed whole moved_there there apart is has =
    let found = event_change program config index step is in
    let stays = change_stays program config index found.0 found.1 in
    let config_is : step.config ≡ configuration_after config index found.0 =
    ap (λ (one : Step). one.config) found.2 in
    let after_formed = subst IsWellFormed config_is (event-formed program config index step formed is) in
    let after_of_program = subst (IsConfigOf program) config_is
    (event_keeps_program program config index step whole of_program is) in
    subst (λ (after : Configuration). IsSome (event_of program after other)) (sym config_is)
    (event_stays program config index other found.0 task moved stays moved_there there apart formed of_program
    after_formed after_of_program task.state refl (open_with_event program config other task there has) has)
