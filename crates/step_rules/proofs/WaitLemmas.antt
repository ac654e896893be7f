-- Who has an event, by waits: a task without a result has one exactly where it waits for no future and nobody else holds
-- its cog.
--
--   `resolved_none_open`           a task whose futures are resolved is at no open `await`
--   `none_open_resolved`           a task at a guard is at an open `await`, or its futures are resolved
--   `free_for_all`, `free_unless_runs`     nobody holds a cog exactly where nobody but a task that does not run does
--   `event_unless_waits`           the law
use Rattle.std.proofs.Common.{◌≡◌, ◌≢◌, ◌↔◌, ℕ, IsSome, List, slice_get, Option, Some, None, refl, sym, ap, ◌∙◌}
use Rattle.std.proofs.lemmas.Option.{same_Some}
use Rattle.abs_program.specs.Control.{Point}
use Rattle.abs_program.specs.Instructions.{Awaits, effect_of}
use Rattle.abs_tree.specs.Syntax.{ProgramTree}
use Rattle.config_state.specs.Configurations.{FrameState, TaskState, Configuration}
use Rattle.config_state.specs.OfProgram.{next_point, IsAtGuard, IsConfigOf}
use Rattle.config_state.specs.WellFormed.{IsWellFormed}
use Rattle.config_state.specs.declared.task.State.{State}
use Rattle.config_state.specs.declared.task.State.TheVariants.{Ready, Running, Awaiting}
use Rattle.step_rules.proofs.CauseLemmas.{going, running_has_none_iff, ready_has_iff, awaiting_has_iff}
use Rattle.step_rules.specs.Blocked.{IsFree, IsFreeFor, AreResolved, IsAtOpenGet, IsAtOpenAwait, WaitsFor, AtGet, AtAwait}
use Rattle.step_rules.specs.Events.{Step, event_of}

module _ (program : ProgramTree) (config : Configuration) (task : TaskState) where
  -- a task whose futures are resolved is at no open `await`
  resolved_none_open : AreResolved program config task → IsAtOpenAwait program config task → ⊥
  resolved_none_open resolved at = resolved.resolved at.part (Some at.slot)
      (ap (λ (names : List (Option ℕ)). slice_get names at.part) same_names ∙ at.named) at.slot at.future refl
      (ap (λ (frame : FrameState). slice_get frame.slots at.slot) same_frame ∙ at.holds) at.unresolved
    where
      same_frame : resolved.frame ≡ at.frame
      same_frame = same_Some _ _ (sym resolved.innermost ∙ at.innermost)

      same_point : resolved.point ≡ at.point
      same_point = same_Some _ _ (sym resolved.point_there ∙ (ap (next_point program) same_frame ∙ at.point_there))

      of_awaits : (names others : List (Option ℕ)) → Awaits names ≡ Awaits others → names ≡ others
      of_awaits names others same = cc

      same_names : resolved.names ≡ at.names
      same_names = of_awaits _ _ (sym resolved.awaits
          ∙ (ap (λ (point : Point). effect_of point.statement) same_point ∙ at.awaits))

  -- the futures of a task at a guard are resolved, unless it is at an open `await`
  none_open_resolved : (frame : FrameState) → slice_get task.frames 0 ≡ Some frame → IsAtGuard program frame
      → (IsAtOpenAwait program config task → ⊥) → AreResolved program config task
  none_open_resolved frame innermost at none = record {
    frame = frame;
    innermost = innermost;
    point = at.point;
    point_there = at.point_there;
    names = at.named;
    awaits = at.awaits;
    resolved = λ part name there slot future named holds unresolved. none (record {
      frame = frame;
      innermost = innermost;
      point = at.point;
      point_there = at.point_there;
      names = at.named;
      awaits = at.awaits;
      part = part;
      slot = slot;
      named = there ∙ ap Some named;
      future = future;
      holds = holds;
      unresolved = unresolved;
    });
  }

-- a cog that nobody holds is free for each task
free_for_all : (config : Configuration) (cog index : ℕ) → IsFree config cog → IsFreeFor config cog index
free_for_all config cog index free = record {
  entry = free.cog;
  there = free.there;
  free = λ holder holds. let none = free.free in absurd cc;
}

-- a cog that nobody else holds than a task that does not run is free
free_unless_runs : (config : Configuration) (cog index : ℕ) (task : TaskState) → IsWellFormed config
    → slice_get config.tasks index ≡ Some task → task.state ≢ Running → IsFreeFor config cog index → IsFree config cog
free_unless_runs config cog index task formed there differs is =
    record { cog = is.entry; there = is.there; free = by is.entry.holder refl }
  where
    by : (holder : Option ℕ) → is.entry.holder ≡ holder → holder ≡ None
    by None holds = refl
    by (Some holder) holds =
        let runs = (formed.cogs_formed cog is.entry is.there).holder_runs holder holds in
        let same : runs.task ≡ task = same_Some _ _
        (sym runs.there ∙ (ap (slice_get config.tasks) (is.free holder holds) ∙ there)) in
        absurd (differs (ap (λ (one : TaskState). one.state) (sym same) ∙ runs.runs))

-- a task that is neither running nor awaiting waits for nothing
ready_never_waits : (program : ProgramTree) (config : Configuration) (task : TaskState) → task.state ≡ Ready
    → (future : ℕ) → WaitsFor program config task future → ⊥
ready_never_waits program config task ready future (AtGet runs at is) = absurd cc
ready_never_waits program config task ready future (AtAwait awaits at is) = absurd cc

module _ (program : ProgramTree) (config : Configuration) (index : ℕ) (task : TaskState)
    (formed : IsWellFormed config) (of_program : IsConfigOf program config)
    (there : slice_get config.tasks index ≡ Some task) (still : task.outcome ≡ None) where
  -- what the law says
  abbrev HasUnlessWaits : Type 0
  HasUnlessWaits = IsSome (event_of program config index)
      ↔ (((future : ℕ) → WaitsFor program config task future → ⊥) × IsFreeFor config task.cog index)

  -- a ready task
  ready_unless_waits : task.state ≡ Ready → HasUnlessWaits
  ready_unless_waits ready =
      let iff = ready_has_iff program config index task formed there still ready in (
        λ some. (ready_never_waits program config task ready, free_for_all config task.cog index (iff.0 some)),
        λ both. iff.1 (free_unless_runs config task.cog index task formed there (λ runs. absurd cc) both.1),
      )

  -- a task that runs
  running_unless_waits : task.state ≡ Running → HasUnlessWaits
  running_unless_waits runs = (λ some. (never some, free), λ both. has both.0 (event_of program config index) refl)
    where
      iff : (event_of program config index ≡ None) ↔ IsAtOpenGet program config task
      iff = running_has_none_iff program config index task formed of_program there runs

      never : IsSome (event_of program config index) → (future : ℕ) → WaitsFor program config task future → ⊥
      never some future (AtGet also at is) = let none = iff.1 at in absurd cc
      never some future (AtAwait awaits at is) = absurd cc

      free : IsFreeFor config task.cog index
      free =
          let holder = (formed.tasks_formed index task there).holds_cog runs in
          record {
            entry = holder.entry;
            there = holder.there;
            free = λ other holds. same_Some _ _ (sym holds ∙ holder.holds);
          }

      has : ((future : ℕ) → WaitsFor program config task future → ⊥) → (event : Option Step)
          → event_of program config index ≡ event → IsSome event
      has none None is = let at = iff.0 is in absurd (none at.future (AtGet runs at refl))
      has none (Some step) is = refl

  -- an awaiting task
  awaiting_unless_waits : task.state ≡ Awaiting → HasUnlessWaits
  awaiting_unless_waits awaits = (to, from)
    where
      iff : IsSome (event_of program config index) ↔ (IsFree config task.cog × AreResolved program config task)
      iff = awaiting_has_iff program config index task formed of_program there awaits

      never : AreResolved program config task → (future : ℕ) → WaitsFor program config task future → ⊥
      never resolved future (AtGet runs at is) = absurd cc
      never resolved future (AtAwait also at is) = resolved_none_open program config task resolved at

      to : IsSome (event_of program config index)
          → ((future : ℕ) → WaitsFor program config task future → ⊥) × IsFreeFor config task.cog index
      to some = let both = iff.0 some in (never both.1, free_for_all config task.cog index both.0)

      from : ((future : ℕ) → WaitsFor program config task future → ⊥) × IsFreeFor config task.cog index
          → IsSome (event_of program config index)
      from both =
          let now = going config index task (formed.tasks_formed index task there) there still in
          let innermost = ap (λ (frames : List FrameState). slice_get frames 0) now.2.frames_are in
          let at = (of_program.tasks_are index task there).awaiting awaits now.0 innermost in
          iff.1 (
            free_unless_runs config task.cog index task formed there (λ runs. absurd cc) both.1,
            none_open_resolved program config task now.0 innermost at
                (λ stuck. both.0 stuck.future (AtAwait awaits stuck refl)),
          )

-- a task without a result has an event exactly where it waits for no future and nobody else holds its cog
pub event_unless_waits : (program : ProgramTree) (config : Configuration) (index : ℕ) (task : TaskState)
    → IsWellFormed config → IsConfigOf program config → slice_get config.tasks index ≡ Some task
    → task.outcome ≡ None → IsSome (event_of program config index)
    ↔ (((future : ℕ) → WaitsFor program config task future → ⊥) × IsFreeFor config task.cog index)
event_unless_waits program config index task formed of_program there still = by task.state refl
  where
    by : (state : State) → task.state ≡ state → IsSome (event_of program config index)
        ↔ (((future : ℕ) → WaitsFor program config task future → ⊥) × IsFreeFor config task.cog index)
    by Ready is = ready_unless_waits program config index task formed of_program there still is
    by Running is = running_unless_waits program config index task formed of_program there still is
    by Awaiting is = awaiting_unless_waits program config index task formed of_program there still is
