-- In a program without `await` and `get` some task has an event while one is unfinished.
--
--   `running_steps`        a running task has an event
--   `ready_steps`          a ready one has an event, or the holder of its cog has one
--   `never_awaits`         no unfinished task is awaiting
--   `never_stuck`          while a task is unfinished, some task has an event
use Rattle.std.proofs.Common.{◌≡◌, ◌≢◌, ℕ, List, [], ◌∷◌, slice_get, Option, Some, None, refl, ap}
use Rattle.std.proofs.lemmas.Option.{option_and_then_some}
use Rattle.std.specs.Prelude.{IsSome, is_some}
use Rattle.abs_program.specs.Control.{Point, program_points}
use Rattle.abs_tree.specs.Syntax.{ProgramTree}
use Rattle.abs_program.specs.Whole.{IsWhole}
use Rattle.config_state.specs.Configurations.{FrameState, TaskState, Configuration}
use Rattle.config_state.specs.OfProgram.{next_point, IsAtGuard, IsConfigOf}
use Rattle.config_state.specs.WellFormed.{IsWellFormed}
use Rattle.config_state.specs.declared.cog.Cog.{Cog}
use Rattle.config_state.specs.declared.task.State.{State}
use Rattle.config_state.specs.declared.task.State.TheVariants.{Ready, Running, Awaiting}
use Rattle.step_rules.proofs.CauseLemmas.{running_has_none_iff, ready_has_iff}
use Rattle.step_rules.proofs.ReachLemmas.{reachable_keeps}
use Rattle.step_rules.specs.Blocked.{IsAtOpenGet, NeverWaits}
use Rattle.step_rules.specs.Events.{Step, event_of}
use Rattle.step_rules.specs.Runs.{IsReachable, IsOpen, HasStep}
use Rattle.list_facts.proofs.EntryLemmas.{slice_get-there}

-- the next statement of a frame is one of the program
point_of_program : (program : ProgramTree) (frame : FrameState) (point : Point)
    → next_point program frame ≡ Some point
    → (index : ℕ) × (slice_get (program_points program.source) index ≡ Some point)
point_of_program program frame point is = option_and_then_some (slice_get (program_points program.source)) frame.next
    point is (λ index next there. (index, there))

module _ (program : ProgramTree) (config : Configuration) (never : NeverWaits program) (formed : IsWellFormed config)
    (of_program : IsConfigOf program config) where
  -- a task that runs has an event
  running_steps : (index : ℕ) (task : TaskState) → slice_get config.tasks index ≡ Some task → task.state ≡ Running
      → IsSome (event_of program config index)
  running_steps index task there runs = by_event (event_of program config index) refl
    where
      by_event : (found : Option Step) → event_of program config index ≡ found
          → IsSome (event_of program config index)
      by_event (Some step) is = ap is_some is
      by_event None is =
          let at_get : IsAtOpenGet program config task =
          (running_has_none_iff program config index task formed of_program there runs).0 is in
          let at = point_of_program program at_get.frame at_get.point at_get.point_there in
          absurd (never.no_get at.0 at_get.point (Some at_get.slot) at_get.target at.1 at_get.gets)

  -- a ready task has an event if nobody holds its cog, and otherwise the holder has one
  ready_steps : (index : ℕ) (task : TaskState) → slice_get config.tasks index ≡ Some task → task.outcome ≡ None
      → task.state ≡ Ready → HasStep program config
  ready_steps index task there open_still ready =
      let cog = slice_get-there config.cogs task.cog (formed.tasks_formed index task there).cog_there in
      by_holder cog.0 cog.1 cog.0.holder refl
    where
      by_holder : (cog : Cog) → slice_get config.cogs task.cog ≡ Some cog → (holder : Option ℕ) → cog.holder ≡ holder
          → HasStep program config
      by_holder cog cog_there None is = (
        index,
        (ready_has_iff program config index task formed there open_still ready).1
            (record { cog = cog; there = cog_there; free = is }),
      )
      by_holder cog cog_there (Some holder) is =
          let running = (formed.cogs_formed task.cog cog cog_there).holder_runs holder is in
          (holder, running_steps holder running.task running.there running.runs)

  -- no unfinished task is awaiting
  never_awaits : (index : ℕ) (task : TaskState) → slice_get config.tasks index ≡ Some task → task.outcome ≡ None
      → task.state ≢ Awaiting
  never_awaits index task there open_still awaits = by_frames task.frames refl
    where
      by_frames : (frames : List FrameState) → task.frames ≡ frames → ⊥
      by_frames [] is = (formed.tasks_formed index task there).unfinished open_still is
      by_frames (frame ∷ others) is =
          let guard : IsAtGuard program frame = (of_program.tasks_are index task there).awaiting awaits frame
          (ap (λ (all : List FrameState). slice_get all 0) is) in
          let at = point_of_program program frame guard.point guard.point_there in
          never.no_await at.0 guard.point guard.named at.1 guard.awaits

  -- while a task is unfinished, some task has an event
  open_steps : (index : ℕ) (task : TaskState) → slice_get config.tasks index ≡ Some task → task.outcome ≡ None
      → (state : State) → task.state ≡ state → HasStep program config
  open_steps index task there open_still Running is = (index, running_steps index task there is)
  open_steps index task there open_still Ready is = ready_steps index task there open_still is
  open_steps index task there open_still Awaiting is = absurd (never_awaits index task there open_still is)

-- in a program without `await` and `get` each configuration that a legal history reaches has an event while a task is
-- unfinished
pub never_stuck : (program : ProgramTree) (config : Configuration) → IsWhole program.source → NeverWaits program
    → IsReachable program config → IsOpen config → HasStep program config
never_stuck program config whole never reachable unfinished =
    let kept = reachable_keeps program config whole reachable in
    let one = unfinished.1 in
    open_steps program config never kept.0 kept.1 unfinished.0 one.task one.there one.open_still one.task.state refl
