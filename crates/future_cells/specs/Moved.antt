-- What events of one task leave of a configuration, as far as a ready set needs it.
--
--   `IsNewTask`                what a new task is
--   `TasksAre`                 the tasks after the events, with the new one, if they make one
--   `IsMoved`                  what they leave
use Rattle.std.specs.Prelude.{◌≡◌, ◌≢◌, ℕ, Bool, ◌++◌, ◌∷◌, [], set, slice_get, Option, Some, None, IsSome}
use Rattle.config_state.specs.Configurations.{TaskState, Configuration}
use Rattle.config_state.specs.declared.task.State.TheVariants.{Ready}
use Rattle.future_cells.specs.Ready.{holders_with}
use Rattle.future_cells.specs.Standings.{holders_of}
use Rattle.step_rules.specs.declared.kind.Did.{Did}
use Rattle.step_rules.specs.declared.kind.Did.TheVariants.{Finished}

-- A new task is ready, and has no result.
pub record IsNewTask (task : TaskState) : Type 0 where
  pub ready : task.state ≡ Ready
  pub unfinished : task.outcome ≡ None

-- The tasks after the events: the task itself has changed, and there is the new one, if there is one.
pub data TasksAre (before after : Configuration) (index : ℕ) (moved : TaskState) : Type 0 where
  NoneMade : after.tasks ≡ set before.tasks index moved → TasksAre before after index moved
  OneMade : (made : TaskState) → IsNewTask made → after.tasks ≡ set before.tasks index moved ++ made ∷ []
      → TasksAre before after index moved

-- What events of the task with an index leave. It had no result; its cog is the same; it has a result exactly where the
-- last event is of the kind Finished. At most one task and one cog are added, and only the holder of its own cog may be
-- another one.
pub record IsMoved (before after : Configuration) (index : ℕ) (did : Did) : Type 0 where
  pub task : TaskState
  pub there : slice_get before.tasks index ≡ Some task
  pub had_no_result : task.outcome ≡ None
  pub moved : TaskState
  pub same_cog : moved.cog ≡ task.cog
  pub ended : did ≡ Finished → IsSome moved.outcome
  pub unfinished : did ≢ Finished → moved.outcome ≡ None
  pub tasks_are : TasksAre before after index moved
  pub new_cog : Bool
  pub holder : Option ℕ
  pub holders_are : holders_of after.cogs ≡ holders_with new_cog (set (holders_of before.cogs) task.cog holder)
