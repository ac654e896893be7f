-- What is kept of the tasks by themselves.
--
--   `KeptPosts`                the posts of all tasks, as contracts see them
--   `is_going`, `is_waiting_for`       whether a standing is that of a task that goes, or that waits for a future
--   `goes_by`, `waits_by`      whether a post, if there is one, goes in a cog; whether it waits for a future
--   `goes_in`, `waits_for`     whether a task goes, in a cog; whether it waits for the task of a future
--   `GoersAre`, `WaitersAre`   the sets of tasks that go, by cog, and of those that wait, by future
--   `AreFiled`                 the sets are those of the posts
use Rattle.std.specs.Prelude.{◌≡◌, ◌<◌, ℕ, Bool, true, false, ◌&&◌, nat_eq, List, length, slice_get, Option, Some, None}
use Rattle.future_cells.specs.TaskSets.{has}
use Rattle.future_cells.specs.declared.posts.Post.{Post}
use Rattle.future_cells.specs.declared.posts.Standing.{Standing}
use Rattle.future_cells.specs.declared.posts.Standing.TheVariants.{Ended, Waits, Goes}

-- the posts of the tasks, by index; how many cogs there are; and how many more tasks and cogs there is room for
pub record KeptPosts : Type 0 where
  pub posts : List Post
  pub cogs : ℕ
  pub task_room : ℕ
  pub cog_room : ℕ

abbrev pub is_going : Standing → Bool
is_going Goes = true
is_going (Waits future) = false
is_going Ended = false

abbrev pub is_waiting_for : ℕ → Standing → Bool
is_waiting_for future Goes = false
is_waiting_for future (Waits other) = nat_eq other future
is_waiting_for future Ended = false

abbrev pub goes_by : ℕ → Option Post → Bool
goes_by cog None = false
goes_by cog (Some post) = nat_eq post.cog cog && is_going post.standing

-- whether a task is in the cog, and goes
abbrev pub goes_in : List Post → ℕ → ℕ → Bool
goes_in posts cog task = goes_by cog (slice_get posts task)

abbrev pub waits_by : ℕ → Option Post → Bool
waits_by future None = false
waits_by future (Some post) = is_waiting_for future post.standing

-- whether a task waits for the task of the future
abbrev pub waits_for : List Post → ℕ → ℕ → Bool
waits_for posts future task = waits_by future (slice_get posts task)

-- The set of each cog has the tasks that go in it.
abbrev pub GoersAre : List Post → List (List ℕ) → Type 0
GoersAre posts goers = (cog : ℕ) (tasks : List ℕ) → slice_get goers cog ≡ Some tasks
    → (task : ℕ) → has tasks task ≡ goes_in posts cog task

-- The set of each future has the tasks that wait for it.
abbrev pub WaitersAre : List Post → List (List ℕ) → Type 0
WaitersAre posts waiters = (future : ℕ) (tasks : List ℕ) → slice_get waiters future ≡ Some tasks
    → (task : ℕ) → has tasks task ≡ waits_for posts future task

-- The cog of each post is there, and so is each task that one waits for; and the sets are those of the posts.
pub record AreFiled (posts : List Post) (goers waiters : List (List ℕ)) : Type 0 where
  pub cogs_there : (task : ℕ) (post : Post) → slice_get posts task ≡ Some post → post.cog < length goers
  pub futures_there : (task : ℕ) (post : Post) → slice_get posts task ≡ Some post
      → (future : ℕ) → post.standing ≡ Waits future → future < length posts
  pub waiters_for_each : length waiters ≡ length posts
  pub goers_are : GoersAre posts goers
  pub waiters_are : WaitersAre posts waiters
