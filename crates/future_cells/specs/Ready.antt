-- What contracts see of the ready set, and what is kept with it.
--
--   `is_free_for`              whether a task can go on in a cog with this holder
--   `is_able_in`               whether a task of a cog has an event, by what is kept
--   `is_able_by`, `is_able`    whether a task has one, by its post
--   `able_tasks`               all tasks that have one, in rising order
--   `KeptReady`                what contracts see of a `Ready`
--   `IsCandidate`              the task that is next of those of a cog
--   `AreCandidates`            the seat of each cog has its candidate
--   `posts_with`, `holders_with`       with a new task, and with a new cog
--   `is_busy`, `is_idle_by`    whether a cog is busy; whether there is a post, and its cog is not
--   `is_free_able`             whether a task has an event, and its cog is not busy
use Rattle.std.specs.Prelude.{◌≡◌, ℕ, Bool, true, false, not, ◌&&◌, nat_eq, List, [], ◌∷◌, ◌++◌, filter, length, slice_get, Option, Some, None}
use Rattle.std.specs.List.{range_with_len}
use Rattle.future_cells.specs.Posts.{goes_in}
use Rattle.future_cells.specs.TaskSets.{has}
use Rattle.future_cells.specs.Turns.{IsFirstOf}
use Rattle.future_cells.specs.declared.posts.Post.{Post}
use Rattle.future_cells.specs.declared.posts.Standing.TheVariants.{Goes}

-- whether nobody else than the task holds a cog with this holder, if there is such a cog
abbrev pub is_free_for : ℕ → Option (Option ℕ) → Bool
is_free_for task None = false
is_free_for task (Some None) = true
is_free_for task (Some (Some holder)) = nat_eq holder task

-- whether a task is in the cog and goes, and nobody else holds the cog
abbrev pub is_able_in : List Post → List (Option ℕ) → ℕ → ℕ → Bool
is_able_in posts holders cog task = goes_in posts cog task && is_free_for task (slice_get holders cog)

abbrev pub is_able_by : List Post → List (Option ℕ) → ℕ → Option Post → Bool
is_able_by posts holders task None = false
is_able_by posts holders task (Some post) = is_able_in posts holders post.cog task

-- whether a task goes, and nobody else holds its cog
abbrev pub is_able : List Post → List (Option ℕ) → ℕ → Bool
is_able posts holders task = is_able_by posts holders task (slice_get posts task)

-- the tasks that go while nobody else holds their cog, in rising order
abbrev pub able_tasks : List Post → List (Option ℕ) → List ℕ
able_tasks posts holders = filter (is_able posts holders) (range_with_len 0 (length posts))

-- the tasks that have an event, in rising order; how many more events there is room for; and what is kept with them:
-- the posts of the tasks, the holders of the cogs, and the task of the last event, or 0 where there was none. The search
-- for the next task takes a few steps from this one on.
pub record KeptReady : Type 0 where
  pub tasks : List ℕ
  pub spare : ℕ
  pub posts : List Post
  pub holders : List (Option ℕ)
  pub last : ℕ

-- The task, if it is one, is the first after the last one of those of the cog that have an event; if it is none, no task
-- of the cog has one.
abbrev pub IsCandidate : List Post → List (Option ℕ) → ℕ → ℕ → Option ℕ → Type 0
IsCandidate posts holders last cog None = (task : ℕ) → is_able_in posts holders cog task ≡ false
IsCandidate posts holders last cog (Some task) = IsFirstOf (is_able_in posts holders cog) last task

-- Each cog has a seat, and its candidate has it.
pub record AreCandidates (posts : List Post) (holders : List (Option ℕ)) (last : ℕ) (seats : List (Option ℕ))
    : Type 0 where
  pub seat_for_each : length seats ≡ length holders
  pub candidates_are : (cog : ℕ) (seat : Option ℕ) → slice_get seats cog ≡ Some seat
      → IsCandidate posts holders last cog seat

-- the posts with that of a new task, which goes in this cog, if there is one
abbrev pub posts_with : Option ℕ → List Post → List Post
posts_with None posts = posts
posts_with (Some cog) posts = posts ++ record { cog = cog; standing = Goes } ∷ []

-- the holders with that of a new cog, which nobody holds, if there is one
abbrev pub holders_with : Bool → List (Option ℕ) → List (Option ℕ)
holders_with false holders = holders
holders_with true holders = holders ++ None ∷ []

-- whether a cog is busy, by the entries of some cogs
abbrev pub is_busy : Option Bool → Bool
is_busy None = false
is_busy (Some busy) = busy

abbrev pub is_idle_by : List Bool → Option Post → Bool
is_idle_by busy None = false
is_idle_by busy (Some post) = not (is_busy (slice_get busy post.cog))

-- whether a task has an event, and its cog is not busy
abbrev pub is_free_able : KeptReady → List Bool → ℕ → Bool
is_free_able ready busy task = has ready.tasks task && is_idle_by busy (slice_get ready.posts task)
