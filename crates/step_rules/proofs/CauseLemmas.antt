-- Who has an event. The change of a task is found by its result, its state and its innermost frame.
--
--   `event_none`, `change_none`, `event_some`  a task has an event where it has a change
--   `ended_has_none`                           a task with a result has none
--   `IsGoing`, `going`, `change_going`         a task that has no result, and its change, by its state
--   `ready_has_iff`, `awaiting_has_iff`        when a ready and an awaiting task have an event
--   `running_has_none_iff`                     when a task that runs has none
use Rattle.std.proofs.Common.{◌≡◌, ◌≢◌, ◌↔◌, ℕ, zero, suc, true, is_some, IsSome, List, [], ◌∷◌, slice_get, Option, Some, None, option_and_then, refl, sym, ap, ◌∙◌}
use Rattle.std.proofs.lemmas.Option.{same_Some}
use Rattle.std.specs.Option.{option_map}
use Rattle.abs_program.specs.Control.{Point}
use Rattle.abs_program.specs.Instructions.{Awaits, effect_of}
use Rattle.abs_values.specs.References.{IsIn, ToFuture}
use Rattle.abs_values.specs.Results.{Result, Results}
use Rattle.abs_tree.specs.Syntax.{ProgramTree}
use Rattle.abs_values.specs.ValueTrees.{ValueTree, FutureValue}
use Rattle.config_state.specs.Configurations.{FrameState, TaskState, Configuration, Each, IsUnfinished}
use Rattle.config_state.specs.OfProgram.{next_point, IsAtGuard, IsConfigOf}
use Rattle.config_state.specs.WellFormed.{AreThere, IsTaskFormed, IsWellFormed}
use Rattle.config_state.specs.declared.cog.Cog.{Cog}
use Rattle.config_state.specs.declared.task.State.{State}
use Rattle.config_state.specs.declared.task.State.TheVariants.{Ready, Running, Awaiting}
use Rattle.step_rules.proofs.GetLemmas.{running_none, open_get_none}
use Rattle.config_state.proofs.BodyLemmas.{frame_has_point}
use Rattle.step_rules.specs.Blocked.{IsAtOpenGet, IsFree, AreResolved}
use Rattle.step_rules.specs.Changes.{Change}
use Rattle.step_rules.specs.Events.{run_change, run_frames, change_by_state, change_by_outcome, change_of_task, change_by, change_of, step_by, event_of}
use Rattle.step_rules.specs.Inputs.{Input, input_in, input_with, input_of_task, input_of, output_of}
use Rattle.step_rules.specs.Lookups.{Runner, named_value}
use Rattle.step_rules.specs.WaitRules.{Guard, Faulty, Unresolved, Resolved, guard_by_outcome, guard_by_task, guard_by_value, guard_before, guard_of, take_if_free, take_rule, take_if_resolved, wake_by, wake_rule}
use Rattle.list_facts.proofs.EntryLemmas.{slice_get-there}

-- the change of a task, by what is found at its index
change_found : (program : ProgramTree) (config : Configuration) (index : ℕ) (found : Option TaskState)
    → slice_get config.tasks index ≡ found
    → change_of program config index ≡ option_and_then (λ (input : Input).
    change_of_task program config index (output_of program input) found) (input_of_task program config found)
unfolding change_of change_by input_of
change_found program config index found there = ap (λ (is : Option TaskState). option_and_then (λ (input : Input).
    change_of_task program config index (output_of program input) is) (input_of_task program config is)) there

-- a task without a change has no event
pub event_none : (program : ProgramTree) (config : Configuration) (index : ℕ) → change_of program config index ≡ None
    → event_of program config index ≡ None
unfolding event_of
event_none program config index none = ap (option_map (step_by config index)) none

-- a task without an event has no change
pub change_none : (program : ProgramTree) (config : Configuration) (index : ℕ) → event_of program config index ≡ None
    → change_of program config index ≡ None
unfolding event_of
change_none program config index none = by (change_of program config index) none
  where
    by : (change : Option Change) → option_map (step_by config index) change ≡ None → change ≡ None
    by None is = refl
    by (Some change) is = absurd cc

-- a task has an event where it has a change
pub event_some : (program : ProgramTree) (config : Configuration) (index : ℕ)
    → is_some (event_of program config index) ≡ is_some (change_of program config index)
unfolding event_of
event_some program config index = by (change_of program config index)
  where
    by : (change : Option Change) → is_some (option_map (step_by config index) change) ≡ is_some change
    by None = refl
    by (Some change) = refl

-- a task with a result has no event
pub ended_has_none : (program : ProgramTree) (config : Configuration) (index : ℕ) (task : TaskState)
    → slice_get config.tasks index ≡ Some task → IsSome task.outcome → event_of program config index ≡ None
ended_has_none program config index task there ended =
    event_none program config index (change_found program config index (Some task) there
    ∙ no_change task.outcome ended (input_with program config task.state task.frames))
  where
    no_change : (outcome : Option Result) → is_some outcome ≡ true → (input : Option Input)
        → option_and_then (λ (one : Input).
        change_by_outcome program config index task (output_of program one) outcome) input ≡ None
    no_change None is input = absurd cc
    no_change (Some result) is None = refl
    no_change (Some result) is (Some input) = refl

-- The task is there and has no result, and its innermost frame is this one.
pub record IsGoing (config : Configuration) (index : ℕ) (task : TaskState) (frame : FrameState)
    (others : List FrameState) : Type 0 where
  pub there : slice_get config.tasks index ≡ Some task
  pub still : task.outcome ≡ None
  pub frames_are : task.frames ≡ frame ∷ others

-- an unfinished task has an innermost frame
pub going : (config : Configuration) (index : ℕ) (task : TaskState) → IsTaskFormed config index task
    → slice_get config.tasks index ≡ Some task → task.outcome ≡ None
    → (frame : FrameState) × (others : List FrameState) × IsGoing config index task frame others
going config index task formed there still = by task.frames refl
  where
    by : (frames : List FrameState) → task.frames ≡ frames
        → (frame : FrameState) × (others : List FrameState) × IsGoing config index task frame others
    by [] is = absurd (formed.unfinished still is)
    by (frame ∷ others) is = (frame, others, record { there = there; still = still; frames_are = is })

-- a task that is not ready has no result
open_unless_ready : (config : Configuration) (index : ℕ) (task : TaskState) → IsTaskFormed config index task
    → task.state ≢ Ready → task.outcome ≡ None
open_unless_ready config index task formed differs = by task.outcome refl
  where
    by : (outcome : Option Result) → task.outcome ≡ outcome → outcome ≡ None
    by None is = refl
    by (Some result) is = absurd (differs (formed.ended result is).1)

-- the change of a task that has no result, by its state
pub change_going : (program : ProgramTree) (config : Configuration) (index : ℕ) (task : TaskState)
    (frame : FrameState) (others : List FrameState) (state : State) → IsGoing config index task frame others
    → task.state ≡ state
    → change_of program config index
    ≡ change_by_state program config index task (output_of program (input_in program config state frame)) state
change_going program config index task frame others state is state_is =
    change_found program config index (Some task) is.there
    ∙ (ap (λ (outcome : Option Result). option_and_then (λ (input : Input).
    change_by_outcome program config index task (output_of program input) outcome)
    (input_with program config task.state task.frames)) is.still
    ∙ (ap (λ (now : State). option_and_then (λ (input : Input).
    change_by_state program config index task (output_of program input) now)
    (input_with program config now task.frames)) state_is
    ∙ ap (λ (frames : List FrameState). option_and_then (λ (input : Input).
    change_by_state program config index task (output_of program input) state)
    (input_with program config state frames)) is.frames_are))

-- a task can take its cog where nobody holds it
taken_iff : (config : Configuration) (index : ℕ) (task : TaskState)
    → IsSome (take_rule index task (slice_get config.cogs task.cog)) ↔ IsFree config task.cog
taken_iff config index task = (λ some. by (slice_get config.cogs task.cog) refl some, back)
  where
    of : (cog : Cog) → slice_get config.cogs task.cog ≡ Some cog → (holder : Option ℕ) → cog.holder ≡ holder
        → is_some (take_if_free index task holder) ≡ true → IsFree config task.cog
    of cog is None holds some = record { cog = cog; there = is; free = holds }
    of cog is (Some other) holds some = absurd cc

    by : (found : Option Cog) → slice_get config.cogs task.cog ≡ found
        → is_some (take_rule index task found) ≡ true → IsFree config task.cog
    by None is some = absurd cc
    by (Some cog) is some = of cog is cog.holder refl some

    back : IsFree config task.cog → is_some (take_rule index task (slice_get config.cogs task.cog)) ≡ true
    back free = ap is_some (ap (take_rule index task) free.there ∙ ap (take_if_free index task) free.free)

-- a ready task has an event exactly where nobody holds its cog
pub ready_has_iff : (program : ProgramTree) (config : Configuration) (index : ℕ) (task : TaskState)
    → IsWellFormed config → slice_get config.tasks index ≡ Some task → task.outcome ≡ None → task.state ≡ Ready
    → IsSome (event_of program config index) ↔ IsFree config task.cog
ready_has_iff program config index task formed there still ready =
    let now = going config index task (formed.tasks_formed index task there) there still in
    let same : is_some (event_of program config index)
    ≡ is_some (take_rule index task (slice_get config.cogs task.cog)) =
    event_some program config index
    ∙ ap is_some (change_going program config index task now.0 now.1 Ready now.2 ready) in
    let taken = taken_iff config index task in
    (λ some. taken.0 (sym same ∙ some), λ free. same ∙ taken.1 free)

-- the task of a future in a slot is there
future_there : (config : Configuration) (values : List ValueTree) (slot future : ℕ) → AreThere config values
    → slice_get values slot ≡ Some (FutureValue future)
    → (task : TaskState) × (slice_get config.tasks future ≡ Some task)
unfolding IsIn
future_there config values slot future are holds =
    slice_get-there config.tasks future (are slot (FutureValue future) holds (ToFuture future) refl)

-- of two parts of a guard both are resolved, if the whole is
before_resolved : (first others : Guard) → guard_before first others ≡ Resolved
    → (first ≡ Resolved) × (others ≡ Resolved)
before_resolved (Faulty cause) others is = absurd cc
before_resolved Unresolved (Faulty cause) is = absurd cc
before_resolved Unresolved Unresolved is = absurd cc
before_resolved Unresolved Resolved is = absurd cc
before_resolved Resolved others is = (refl, is)

-- a part of a guard is not resolved, if the task of its future has no result
unfinished_unresolved : (config : Configuration) (slots : List ValueTree) (slot future : ℕ)
    → slice_get slots slot ≡ Some (FutureValue future) → IsUnfinished config future
    → guard_by_value config (named_value slots (Some slot)) ≡ Unresolved
unfinished_unresolved config slots slot future holds is =
    ap (guard_by_value config) holds ∙ (ap guard_by_task is.there ∙ ap guard_by_outcome is.open_still)

-- no future that a guard names is unresolved, if the guard is resolved
each_resolved : (config : Configuration) (slots : List ValueTree) (names : List (Option ℕ))
    → guard_of config slots names ≡ Resolved
    → Each names (λ part name. (slot future : ℕ) → name ≡ Some slot
    → slice_get slots slot ≡ Some (FutureValue future) → IsUnfinished config future → ⊥)
each_resolved config slots [] resolved index name is = absurd cc
each_resolved config slots (first ∷ others) resolved zero name is = λ slot future named holds unfinished.
    let one = guard_by_value config (named_value slots first) in
    let own = before_resolved one (guard_of config slots others) resolved in
    let named_so = ap (λ (one : Option ℕ). guard_by_value config (named_value slots one)) (same_Some _ _ is ∙ named) in
    let waits = unfinished_unresolved config slots slot future holds unfinished in
    absurd (cc (own.0, named_so, waits))
each_resolved config slots (first ∷ others) resolved (suc index) name is =
    let one = guard_by_value config (named_value slots first) in
    let own = before_resolved one (guard_of config slots others) resolved in
    each_resolved config slots others own.1 index name is

-- a guard is resolved, if each of its parts is
guard_resolved : (config : Configuration) (slots : List ValueTree) (names : List (Option ℕ))
    → Each names (λ part name. guard_by_value config (named_value slots name) ≡ Resolved)
    → guard_of config slots names ≡ Resolved
guard_resolved config slots [] each = refl
guard_resolved config slots (first ∷ others) each =
    ap (λ (one : Guard). guard_before one (guard_of config slots others)) (each zero first refl)
    ∙ guard_resolved config slots others (λ index name is. each (suc index) name is)

-- a future is resolved, if its task is there and is not unfinished
part_resolved : (config : Configuration) (slots : List ValueTree) (name : Option ℕ) → AreThere config slots
    → ((slot : ℕ) × (future : ℕ) × (name ≡ Some slot) × (slice_get slots slot ≡ Some (FutureValue future)))
    → ((slot future : ℕ) → name ≡ Some slot → slice_get slots slot ≡ Some (FutureValue future)
    → IsUnfinished config future → ⊥)
    → guard_by_value config (named_value slots name) ≡ Resolved
part_resolved config slots name are at no_wait =
    let task = future_there config slots at.0 at.1 are at.3 in
    ap (guard_by_value config) (ap (named_value slots) at.2 ∙ at.3)
    ∙ (ap guard_by_task task.1 ∙ by task.0 task.1 task.0.outcome refl)
  where
    by : (task : TaskState) → slice_get config.tasks at.1 ≡ Some task → (outcome : Option Result)
        → task.outcome ≡ outcome → guard_by_outcome outcome ≡ Resolved
    by task there None open_still = absurd (no_wait at.0 at.1 at.2 at.3
        (record { task = task; there = there; open_still = open_still }))
    by task there (Some result) ended = refl

-- a task wakes where its guard is resolved and it can take its cog
woken : (config : Configuration) (index : ℕ) (task : TaskState) (guard : Guard)
    → IsSome (take_if_resolved config index task guard)
    → (guard ≡ Resolved) × IsSome (take_rule index task (slice_get config.cogs task.cog))
woken config index task (Faulty cause) some = absurd cc
woken config index task Unresolved some = absurd cc
woken config index task Resolved some = (refl, some)

-- the names of an `await`
same_names : (names others : List (Option ℕ)) → Awaits names ≡ Awaits others → names ≡ others
same_names names others same = cc

-- a task at a guard that is resolved has no unresolved future
guard_is_resolved : (program : ProgramTree) (config : Configuration) (task : TaskState) (frame : FrameState)
    (at : IsAtGuard program frame) → slice_get task.frames 0 ≡ Some frame
    → guard_of config frame.slots at.named ≡ Resolved → AreResolved program config task
guard_is_resolved program config task frame at innermost resolved = record {
  frame = frame;
  innermost = innermost;
  point = at.point;
  point_there = at.point_there;
  names = at.named;
  awaits = at.awaits;
  resolved = each_resolved config frame.slots at.named resolved;
}

-- the guard of a task that has no unresolved future is resolved
resolved_guard : (program : ProgramTree) (config : Configuration) (task : TaskState) (frame : FrameState)
    (at : IsAtGuard program frame) → slice_get task.frames 0 ≡ Some frame → AreThere config frame.slots
    → AreResolved program config task → guard_of config frame.slots at.named ≡ Resolved
resolved_guard program config task frame at innermost are is =
    guard_resolved config frame.slots at.named (λ part name there.
    part_resolved config frame.slots name are (at.futures part name there) (λ slot future named holds.
    is.resolved part name (ap (λ (names : List (Option ℕ)). slice_get names part) same_named ∙ there) slot future
    named (ap (λ (one : FrameState). slice_get one.slots slot) same_frame ∙ holds)))
  where
    same_frame : is.frame ≡ frame
    same_frame = same_Some _ _ (sym is.innermost ∙ innermost)

    same_point : is.point ≡ at.point
    same_point = same_Some _ _ (sym is.point_there ∙ (ap (next_point program) same_frame ∙ at.point_there))

    same_named : is.names ≡ at.named
    same_named =
        same_names _ _ (sym is.awaits ∙ (ap (λ (point : Point). effect_of point.statement) same_point ∙ at.awaits))

-- the change of a task at a guard
change_at_guard : (program : ProgramTree) (config : Configuration) (index : ℕ) (task : TaskState)
    (frame : FrameState) (others : List FrameState) (at : IsAtGuard program frame)
    → IsGoing config index task frame others → task.state ≡ Awaiting
    → change_of program config index
    ≡ take_if_resolved config index task (guard_of config frame.slots at.named)
change_at_guard program config index task frame others at is awaits =
    change_going program config index task frame others Awaiting is awaits
    ∙ (ap (wake_rule program config index task) is.frames_are
    ∙ (ap (option_and_then (λ (point : Point). wake_by config index task frame (effect_of point.statement)))
    at.point_there
    ∙ ap (wake_by config index task frame) at.awaits))

-- an awaiting task has an event exactly where nobody holds its cog and each future that it names is resolved
pub awaiting_has_iff : (program : ProgramTree) (config : Configuration) (index : ℕ) (task : TaskState)
    → IsWellFormed config → IsConfigOf program config → slice_get config.tasks index ≡ Some task
    → task.state ≡ Awaiting
    → IsSome (event_of program config index) ↔ (IsFree config task.cog × AreResolved program config task)
awaiting_has_iff program config index task formed of_program there awaits = (to, from)
  where
    own : IsTaskFormed config index task
    own = formed.tasks_formed index task there

    now : (frame : FrameState) × (others : List FrameState) × IsGoing config index task frame others
    now = going config index task own there (open_unless_ready config index task own (λ ready. absurd cc))

    innermost : slice_get task.frames 0 ≡ Some now.0
    innermost = ap (λ (frames : List FrameState). slice_get frames 0) now.2.frames_are

    at : IsAtGuard program now.0
    at = (of_program.tasks_are index task there).awaiting awaits now.0 innermost

    guard : Guard
    guard = guard_of config now.0.slots at.named

    wakes : is_some (event_of program config index) ≡ is_some (take_if_resolved config index task guard)
    wakes = event_some program config index
        ∙ ap is_some (change_at_guard program config index task now.0 now.1 at now.2 awaits)

    to : is_some (event_of program config index) ≡ true → IsFree config task.cog × AreResolved program config task
    to some =
        let both = woken config index task guard (sym wakes ∙ some) in
        ((taken_iff config index task).0 both.1, guard_is_resolved program config task now.0 at innermost both.0)

    from : IsFree config task.cog × AreResolved program config task → is_some (event_of program config index) ≡ true
    from both =
        let slots_there = (own.frames_formed 0 now.0 innermost).slots_there in
        let all = resolved_guard program config task now.0 at innermost slots_there both.1 in
        wakes
        ∙ (ap (λ (one : Guard). is_some (take_if_resolved config index task one)) all
        ∙ (taken_iff config index task).1 both.0)

-- a task that runs has no event exactly where its next statement gets a future that is unresolved
pub running_has_none_iff : (program : ProgramTree) (config : Configuration) (index : ℕ) (task : TaskState)
    → IsWellFormed config → IsConfigOf program config → slice_get config.tasks index ≡ Some task
    → task.state ≡ Running → (event_of program config index ≡ None) ↔ IsAtOpenGet program config task
running_has_none_iff program config index task formed of_program there runs = (to, from)
  where
    own : IsTaskFormed config index task
    own = formed.tasks_formed index task there

    now : (frame : FrameState) × (others : List FrameState) × IsGoing config index task frame others
    now = going config index task own there (open_unless_ready config index task own (λ ready. absurd cc))

    innermost : slice_get task.frames 0 ≡ Some now.0
    innermost = ap (λ (frames : List FrameState). slice_get frames 0) now.2.frames_are

    at : Runner
    at = record { index = index; task = task; frame = now.0; others = now.1 }

    results : Results
    results = output_of program (input_in program config Running now.0)

    runner : change_of program config index ≡ run_change program config at results
    runner =
        change_going program config index task now.0 now.1 Running now.2 runs
        ∙ ap (run_frames program config index task results) now.2.frames_are

    to : event_of program config index ≡ None → IsAtOpenGet program config task
    to none =
        let is_frame = (of_program.tasks_are index task there).frames_are 0 now.0 innermost in
        running_none program config at innermost
        (λ next is. frame_has_point program config now.0 next is_frame is) results
        (sym runner ∙ change_none program config index none)

    from : IsAtOpenGet program config task → event_of program config index ≡ None
    from gets = event_none program config index (runner ∙ open_get_none program config at innermost gets)
