-- What tasks are by themselves after events of one task.
--
--   `task-kept`, `task-moved`          another task is as before, and the task of the events is there
--   `unfinished-kept`, `unfinished-before`     which futures are unresolved after the events, and were before them
--   `waited-unfinished`                the future for which a task waits is unresolved
--   `waits-carried`                    a task waits for a future in another configuration too
--   `waited-there`                     the future for which a task waits is there
--   `standing-kept`                    another task is by itself what it was, if it did not wait for one that has ended
--   `standing-new`                     a new task goes
use Rattle.std.proofs.Common.{◌≡◌, ◌≢◌, ◌⊎◌, ◌<◌, ℕ, inl, inr, List, [], ◌∷◌, length, set, slice_get, Some, refl, sym, ap, ◌∙◌, subst}
use Rattle.std.proofs.lemmas.Bool.{cases_eq}
use Rattle.std.proofs.lemmas.Option.{same_Some, slice_get_within}
use Rattle.abs_tree.specs.Syntax.{ProgramTree}
use Rattle.abs_values.specs.References.{ToFuture, IsIn}
use Rattle.abs_values.specs.ValueTrees.{FutureValue}
use Rattle.config_state.specs.Configurations.{FrameState, TaskState, Configuration, IsUnfinished}
use Rattle.config_state.specs.WellFormed.{IsWellFormed}
use Rattle.future_cells.proofs.ItemLemmas.{slice_get-set_other, slice_get-set_same}
use Rattle.step_rules.specs.Blocked.{WaitsFor, AtGet, AtAwait}
use Rattle.future_cells.specs.Moved.{IsNewTask, TasksAre, NoneMade, OneMade, IsMoved}
use Rattle.future_cells.specs.Standings.{IsStanding, HasEnded, IsWaiting, IsGoing}
use Rattle.future_cells.specs.declared.posts.Standing.{Standing}
use Rattle.future_cells.specs.declared.posts.Standing.TheVariants.{Waits, Goes}
use Rattle.list_facts.proofs.EntryLemmas.{slice_get-front, slice_get-there}
use Rattle.step_rules.specs.declared.kind.Did.{Did}
use Rattle.step_rules.specs.declared.kind.Did.TheVariants.{Finished}

-- what is there after the task was set is there after all, also where a task was made
set-there : (before after : Configuration) (index : ℕ) (moved : TaskState) (other : ℕ) (task : TaskState)
    → TasksAre before after index moved → slice_get (set before.tasks index moved) other ≡ Some task
    → slice_get after.tasks other ≡ Some task
set-there before after index moved other task (NoneMade are) there =
    ap (λ (tasks : List TaskState). slice_get tasks other) are ∙ there
set-there before after index moved other task (OneMade made new are) there =
    ap (λ (tasks : List TaskState). slice_get tasks other) are
    ∙ slice_get-front (set before.tasks index moved) (made ∷ []) other task there

module _ (before after : Configuration) (index : ℕ) (did : Did) (is_moved : IsMoved before after index did) where
  -- another task is as before
  pub task-kept : (other : ℕ) (task : TaskState) → other ≢ index → slice_get before.tasks other ≡ Some task
      → slice_get after.tasks other ≡ Some task
  task-kept other task differs there = set-there before after index is_moved.moved other task is_moved.tasks_are
      (slice_get-set_other before.tasks index other is_moved.moved differs ∙ there)

  -- the task of the events is there
  pub task-moved : slice_get after.tasks index ≡ Some is_moved.moved
  task-moved = set-there before after index is_moved.moved index is_moved.moved is_moved.tasks_are
      (slice_get-set_same before.tasks index is_moved.moved
      (slice_get_within before.tasks index is_moved.task is_moved.there))

  -- a future that was unresolved still is, if it is not that of the task, or the task has not ended
  unfinished-kept : (future : ℕ) → (future ≡ index → did ≢ Finished) → IsUnfinished before future
      → IsUnfinished after future
  unfinished-kept future goes_on was = by (cases_eq future index)
    where
      by : (future ≡ index) ⊎ (future ≢ index) → IsUnfinished after future
      by (inl same) = record {
        task = is_moved.moved;
        there = ap (slice_get after.tasks) same ∙ task-moved;
        open_still = is_moved.unfinished (goes_on same);
      }
      by (inr differs) = record {
        task = was.task;
        there = task-kept future was.task differs was.there;
        open_still = was.open_still;
      }

  -- a future that was there and is unresolved was so before
  unfinished-before : (future : ℕ) (task : TaskState) → slice_get before.tasks future ≡ Some task
      → IsUnfinished after future → IsUnfinished before future
  unfinished-before future task there still = by (cases_eq future index)
    where
      by : (future ≡ index) ⊎ (future ≢ index) → IsUnfinished before future
      by (inl same) = record {
        task = is_moved.task;
        there = ap (slice_get before.tasks) same ∙ is_moved.there;
        open_still = is_moved.had_no_result;
      }
      by (inr differs) = record {
        task = task;
        there = there;
        open_still = ap (λ (one : TaskState). one.outcome)
            (same_Some task still.task (sym (task-kept future task differs there) ∙ still.there)) ∙ still.open_still;
      }

-- the future for which a task waits is unresolved
pub waited-unfinished : (program : ProgramTree) (config : Configuration) (task : TaskState) (future : ℕ)
    → WaitsFor program config task future → IsUnfinished config future
waited-unfinished program config task future (AtGet runs at is) = subst (IsUnfinished config) is at.unresolved
waited-unfinished program config task future (AtAwait waits at is) = subst (IsUnfinished config) is at.unresolved

-- a task that waits for a future waits for it in another configuration too, if it is unresolved there
waits-carried : (program : ProgramTree) (config other : Configuration) (task : TaskState) (future : ℕ)
    → IsUnfinished other future → WaitsFor program config task future → WaitsFor program other task future
waits-carried program config other task future still (AtGet runs at is) = AtGet runs (record {
  frame = at.frame;
  innermost = at.innermost;
  point = at.point;
  point_there = at.point_there;
  slot = at.slot;
  target = at.target;
  gets = at.gets;
  future = at.future;
  holds = at.holds;
  unresolved = subst (IsUnfinished other) (sym is) still;
}) is
waits-carried program config other task future still (AtAwait waits at is) = AtAwait waits (record {
  frame = at.frame;
  innermost = at.innermost;
  point = at.point;
  point_there = at.point_there;
  names = at.names;
  awaits = at.awaits;
  part = at.part;
  slot = at.slot;
  named = at.named;
  future = at.future;
  holds = at.holds;
  unresolved = subst (IsUnfinished other) (sym is) still;
}) is

module _ (before : Configuration) (formed : IsWellFormed before) (index : ℕ) (task : TaskState)
    (there : slice_get before.tasks index ≡ Some task) where
  -- a future in a slot of a task that is there is there
  held-there : (frame : FrameState) (slot future : ℕ) → slice_get task.frames 0 ≡ Some frame
      → slice_get frame.slots slot ≡ Some (FutureValue future) → future < length before.tasks
  unfolding IsIn
  held-there frame slot future innermost holds =
      ((formed.tasks_formed index task there).frames_formed 0 frame innermost).slots_there slot
      (FutureValue future) holds (ToFuture future) refl

  -- the future for which such a task waits, also later, is there
  waited-there : (program : ProgramTree) (after : Configuration) (future : ℕ)
      → WaitsFor program after task future → future < length before.tasks
  waited-there program after future (AtGet runs at is) =
      subst (λ (one : ℕ). one < length before.tasks) is
      (held-there at.frame at.slot at.future at.innermost at.holds)
  waited-there program after future (AtAwait waits at is) =
      subst (λ (one : ℕ). one < length before.tasks) is
      (held-there at.frame at.slot at.future at.innermost at.holds)

-- another task is by itself what it was, if it did not wait for a task that has ended
pub standing-kept : (program : ProgramTree) (before after : Configuration) (index : ℕ) (did : Did)
    → IsWellFormed before → IsMoved before after index did → (other : ℕ) (task : TaskState) → other ≢ index
    → slice_get before.tasks other ≡ Some task → (standing : Standing) → IsStanding program before task standing
    → (did ≡ Finished → standing ≢ Waits index) → IsStanding program after task standing
standing-kept program before after index did formed is_moved other task differs there standing (HasEnded ended) waited_not =
    HasEnded ended
standing-kept program before after index did formed is_moved other task differs there standing
    (IsWaiting future still waits) waited_not = IsWaiting future still (waits-carried program before after task future
    (unfinished-kept before after index did is_moved future (λ same finished. waited_not finished (ap Waits same))
    (waited-unfinished program before task future waits)) waits)
standing-kept program before after index did formed is_moved other task differs there standing
    (IsGoing still waits_not) waited_not = IsGoing still (λ future waits.
    let one = slice_get-there before.tasks future
    (waited-there before formed other task there program after future waits) in
    waits_not future (waits-carried program after before task future
    (unfinished-before before after index did is_moved future one.0 one.1
    (waited-unfinished program after task future waits)) waits))

-- a new task goes
pub standing-new : (program : ProgramTree) (after : Configuration) (made : TaskState) → IsNewTask made
    → IsStanding program after made Goes
standing-new program after made new = IsGoing new.unfinished waits_not
  where
    waits_not : (future : ℕ) → WaitsFor program after made future → ⊥
    waits_not future (AtGet runs at is) = let ready = new.ready in absurd (cc (ready, runs))
    waits_not future (AtAwait waits at is) = let ready = new.ready in absurd (cc (ready, waits))
