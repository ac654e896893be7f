-- The search for the first task that passes, in a range of tasks.
--
--   `is_idle_able`, `is_idle_seated`   whether a task has an event, or a seat, and its cog is not busy
--   `HasNoneWithin`            no task within a range passes
--   `IsFirstWithin`            the first task within a range that passes
use Rattle.std.specs.Prelude.{◌≡◌, ◌<◌, ◌≤◌, ℕ, Bool, true, false, ◌&&◌, List, slice_get, Option}
use Rattle.future_cells.specs.Ready.{is_able, is_idle_by}
use Rattle.future_cells.specs.Seats.{is_seated}
use Rattle.future_cells.specs.declared.posts.Post.{Post}

-- whether a task goes while nobody else holds its cog, and this cog is not busy
abbrev pub is_idle_able : List Post → List (Option ℕ) → List Bool → ℕ → Bool
is_idle_able posts holders busy task = is_able posts holders task && is_idle_by busy (slice_get posts task)

-- whether a task has a seat, and its cog is not busy
abbrev pub is_idle_seated : List Post → List (Option ℕ) → List Bool → ℕ → Bool
is_idle_seated posts seats busy task = is_seated seats task && is_idle_by busy (slice_get posts task)

-- No task from one on and before another passes.
abbrev pub HasNoneWithin : (ℕ → Bool) → ℕ → ℕ → Type 0
HasNoneWithin passes from to = (task : ℕ) → from ≤ task → task < to → passes task ≡ false

-- The task is the first from one on and before another that passes.
pub record IsFirstWithin (passes : ℕ → Bool) (from to task : ℕ) : Type 0 where
  pub is_one : passes task ≡ true
  pub after : from ≤ task
  pub before : task < to
  pub none_before : HasNoneWithin passes from task
