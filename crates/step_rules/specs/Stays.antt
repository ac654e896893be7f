-- What an event leaves as it was.
--
--   `IsSameTask`, `IsSameObject`       what never changes of a task and of an object
--   `TaskAfter`, `ObjectAfter`         what a task and an object were before an event
--   `CogAfter`                         what a cog was before it
--   `Stays`                            what a change leaves
use Rattle.std.specs.Prelude.{◌≡◌, ◌≢◌, ℕ, length, slice_get, Some, None}
use Rattle.config_state.specs.Configurations.{ObjectState, FrameState, TaskState, Configuration, Each}
use Rattle.config_state.specs.declared.cog.Cog.{Cog}
use Rattle.step_rules.specs.Changes.{Written, Change, configuration_after}

-- The cog, the object, the method and the call of a task never change.
pub record IsSameTask (before after : TaskState) : Type 0 where
  pub cog : after.cog ≡ before.cog
  pub object : after.object ≡ before.object
  pub method : after.method ≡ before.method
  pub call : after.call ≡ before.call

-- The cog, the place and the class of an object never change.
pub record IsSameObject (before after : ObjectState) : Type 0 where
  pub cog : after.cog ≡ before.cog
  pub place : after.place ≡ before.place
  pub class : after.class ≡ before.class

-- A task after a change of the task with this index is that task, an old one, or the new one.
pub data TaskAfter (config : Configuration) (index : ℕ) (change : Change) (other : ℕ) (task : TaskState) : Type 0 where
  Moved : other ≡ index → task ≡ change.task → TaskAfter config index change other task
  Old : other ≢ index → slice_get config.tasks other ≡ Some task → TaskAfter config index change other task
  New : other ≡ length config.tasks → change.new ≡ Some task → TaskAfter config index change other task

-- An object after a change is an old one, with its fields as before or as written, or the new one.
pub data ObjectAfter (config : Configuration) (change : Change) (other : ℕ) (object : ObjectState) : Type 0 where
  Kept : (before : ObjectState) → slice_get config.objects other ≡ Some before → IsSameObject before object
      → object.fields ≡ before.fields → ObjectAfter config change other object
  Filled : (before : ObjectState) (written : Written) → slice_get config.objects other ≡ Some before
      → IsSameObject before object → change.written ≡ Some written → written.object ≡ other
      → object.fields ≡ written.fields → ObjectAfter config change other object
  Fresh : other ≡ length config.objects → change.object ≡ Some object → ObjectAfter config change other object

-- A cog after a change is an old one, which only the task's cog may have another holder than before, or the new one.
pub data CogAfter (config : Configuration) (change : Change) (other : ℕ) (cog : Cog) : Type 0 where
  Untouched : other ≢ change.task.cog → slice_get config.cogs other ≡ Some cog → CogAfter config change other cog
  Held : (before : Cog) → other ≡ change.task.cog → slice_get config.cogs other ≡ Some before
      → cog ≡ record before { holder = change.holder } → CogAfter config change other cog
  Founded : other ≡ length config.cogs → change.cog ≡ Some cog → CogAfter config change other cog

-- What the event of the task with an index leaves: the task is the same one, and had no result; what is written are the
-- fields of the object of one of its frames; and nothing that was there is gone.
pub record Stays (config : Configuration) (index : ℕ) (change : Change) : Type 0 where
  pub task : TaskState
  pub there : slice_get config.tasks index ≡ Some task
  pub had_no_result : task.outcome ≡ None
  pub is_same : IsSameTask task change.task
  pub writes_own : (written : Written) → change.written ≡ Some written
      → (depth : ℕ) × (frame : FrameState) × (slice_get task.frames depth ≡ Some frame)
      × (frame.object ≡ Some written.object)
  pub tasks_stay : Each config.tasks (λ other before. (other ≢ index)
      → slice_get (configuration_after config index change).tasks other ≡ Some before)
  pub moves : slice_get (configuration_after config index change).tasks index ≡ Some change.task
  pub objects_stay : Each config.objects (λ other before. (after : ObjectState)
      × (slice_get (configuration_after config index change).objects other ≡ Some after) × IsSameObject before after)
  pub cogs_stay : Each config.cogs (λ other before. (after : Cog)
      × (slice_get (configuration_after config index change).cogs other ≡ Some after) × (after.parent ≡ before.parent)
      × (after.place ≡ before.place) × ((other ≢ task.cog) → after.holder ≡ before.holder))
