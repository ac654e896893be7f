-- What a ready set stands for.
--
--   `IsStanding`               what a task is by itself
--   `tasks_with_event`         the tasks that have an event
--   `IsPostOf`                 the post of a task
--   `holders_of`               the holders of the cogs
--   `StandsFor`                a ready set is that of a configuration
use Rattle.std.specs.Prelude.{◌≡◌, ℕ, List, filter, length, map, slice_get, Option, Some, None, IsSome, is_some}
use Rattle.std.specs.List.{range_with_len}
use Rattle.abs_tree.specs.Syntax.{ProgramTree}
use Rattle.config_state.specs.Configurations.{TaskState, Configuration}
use Rattle.config_state.specs.declared.cog.Cog.{Cog}
use Rattle.future_cells.specs.Ready.{KeptReady}
use Rattle.future_cells.specs.declared.posts.Post.{Post}
use Rattle.future_cells.specs.declared.posts.Standing.{Standing}
use Rattle.future_cells.specs.declared.posts.Standing.TheVariants.{Ended, Waits, Goes}
use Rattle.step_rules.specs.Blocked.{WaitsFor}
use Rattle.step_rules.specs.Events.{event_of}

-- A task has ended where it has a result. Otherwise it waits for a future that its next statement names, or, if there is
-- none for which it waits, it goes.
pub data IsStanding (program : ProgramTree) (config : Configuration) (task : TaskState) : Standing → Type 0 where
  HasEnded : IsSome task.outcome → IsStanding program config task Ended
  IsWaiting : (future : ℕ) → task.outcome ≡ None → WaitsFor program config task future
      → IsStanding program config task (Waits future)
  IsGoing : task.outcome ≡ None → ((future : ℕ) → WaitsFor program config task future → ⊥)
      → IsStanding program config task Goes

-- the tasks that have an event, in rising order
abbrev pub tasks_with_event : ProgramTree → Configuration → List ℕ
tasks_with_event program config =
    filter (λ task. is_some (event_of program config task)) (range_with_len 0 (length config.tasks))

-- The post is that of the task: it has the task's cog, and what the task is by itself.
pub record IsPostOf (program : ProgramTree) (config : Configuration) (task : TaskState) (post : Post) : Type 0 where
  pub cog_is : post.cog ≡ task.cog
  pub standing_is : IsStanding program config task post.standing

-- The holders of the cogs.
abbrev pub holders_of : List Cog → List (Option ℕ)
holders_of cogs = map (λ (cog : Cog). cog.holder) cogs

-- The ready set is that of the configuration: its list has just the tasks with an event. What is kept with it agrees:
-- there is the post of each task, and the holder of each cog.
pub record StandsFor (program : ProgramTree) (config : Configuration) (ready : KeptReady) : Type 0 where
  pub tasks_are : ready.tasks ≡ tasks_with_event program config
  pub post_for_each : length ready.posts ≡ length config.tasks
  pub posts_are : (index : ℕ) (task : TaskState) (post : Post) → slice_get config.tasks index ≡ Some task
      → slice_get ready.posts index ≡ Some post → IsPostOf program config task post
  pub holders_are : ready.holders ≡ holders_of config.cogs
