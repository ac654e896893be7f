-- How a ready set follows events.
--
--   `going_post`, `going_posts`        posts of tasks, as if each went
--   `IsPostBut`                a post is that of a task, or waits for one that has ended
--   `AgreesBut`                a ready set is that of a configuration but for such tasks
--   `waiting_count`            how many posts wait for the task of a future
--   `StandsUpTo`               a ready set has what the first tasks of a configuration are by themselves
--   `Follows`                  a ready set follows events of a task
use Rattle.std.specs.Prelude.{◌≡◌, ◌≢◌, ◌<◌, ◌≤◌, ◌+◌, ℕ, List, [], ◌∷◌, length, map, slice_get, Some, IsSome, if◌then◌else◌}
use Rattle.abs_tree.specs.Syntax.{ProgramTree}
use Rattle.config_state.specs.Configurations.{TaskState, Configuration}
use Rattle.config_state.specs.declared.task.TaskCell.{TaskCell}
use Rattle.future_cells.specs.Posts.{is_waiting_for}
use Rattle.future_cells.specs.Ready.{KeptReady}
use Rattle.future_cells.specs.Standings.{IsPostOf, IsStanding, holders_of}
use Rattle.future_cells.specs.declared.posts.Post.{Post}
use Rattle.future_cells.specs.declared.posts.Standing.TheVariants.{Waits, Goes}
use Rattle.step_rules.specs.declared.kind.Did.{Did}
use Rattle.step_rules.specs.declared.kind.Did.TheVariants.{Finished}

-- the post of a task, and those of all tasks, as if each went
abbrev pub going_post : TaskCell → Post
going_post task = record { cog = task.cog; standing = Goes }

abbrev pub going_posts : List TaskCell → List Post
going_posts tasks = map going_post tasks

-- The post has the cog of the task. It has what the task is by itself, or it waits for the one that has ended.
pub data IsPostBut (program : ProgramTree) (config : Configuration) (ended : ℕ) (task : TaskState) (post : Post)
    : Type 0 where
  Stands : post.cog ≡ task.cog → IsStanding program config task post.standing
      → IsPostBut program config ended task post
  Waited : post.cog ≡ task.cog → post.standing ≡ Waits ended → IsPostBut program config ended task post

-- The ready set is that of the configuration, but for the tasks that waited for one that has ended.
pub record AgreesBut (program : ProgramTree) (config : Configuration) (ended : ℕ) (ready : KeptReady) : Type 0 where
  pub task : TaskState
  pub there : slice_get config.tasks ended ≡ Some task
  pub has_ended : IsSome task.outcome
  pub post_for_each : length ready.posts ≡ length config.tasks
  pub posts_are : (index : ℕ) (task : TaskState) (post : Post) → slice_get config.tasks index ≡ Some task
      → slice_get ready.posts index ≡ Some post → IsPostBut program config ended task post
  pub holders_are : ready.holders ≡ holders_of config.cogs

-- how many posts wait for the task of a future
abbrev pub waiting_count : ℕ → List Post → ℕ
waiting_count future [] = 0
waiting_count future (post ∷ posts) =
    (if is_waiting_for future post.standing then 1 else 0) + waiting_count future posts

-- The ready set has the post of each task of a configuration: those before an index have what the tasks are by
-- themselves, and all others go.
pub record StandsUpTo (program : ProgramTree) (config : Configuration) (count : ℕ) (ready : KeptReady) : Type 0 where
  pub post_for_each : length ready.posts ≡ length config.tasks
  pub cogs_are : (index : ℕ) (task : TaskState) (post : Post) → slice_get config.tasks index ≡ Some task
      → slice_get ready.posts index ≡ Some post → post.cog ≡ task.cog
  pub before : (index : ℕ) (task : TaskState) (post : Post) → slice_get config.tasks index ≡ Some task
      → slice_get ready.posts index ≡ Some post → index < count → IsStanding program config task post.standing
  pub going : (index : ℕ) (post : Post) → slice_get ready.posts index ≡ Some post → count ≤ index
      → post.standing ≡ Goes
  pub holders_are : ready.holders ≡ holders_of config.cogs

-- The ready set follows events of a task: each other task has what it is by itself, or waited for this one, which only
-- happens where this one has a result.
pub record Follows (program : ProgramTree) (config : Configuration) (index : ℕ) (did : Did) (ready : KeptReady)
    : Type 0 where
  pub task : TaskState
  pub there : slice_get config.tasks index ≡ Some task
  pub has_ended : did ≡ Finished → IsSome task.outcome
  pub post_for_each : length ready.posts ≡ length config.tasks
  pub posts_are : (other : ℕ) (task : TaskState) (post : Post) → slice_get config.tasks other ≡ Some task
      → slice_get ready.posts other ≡ Some post → IsPostBut program config index task post
  pub unless : did ≢ Finished → (other : ℕ) (task : TaskState) (post : Post)
      → slice_get config.tasks other ≡ Some task → slice_get ready.posts other ≡ Some post
      → IsPostOf program config task post
  pub holders_are : ready.holders ≡ holders_of config.cogs
