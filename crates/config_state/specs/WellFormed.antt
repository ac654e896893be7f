-- Well-formed configurations: every index names an entry; the parent of a cog is an earlier one; a task has a result
-- exactly where it has no frame, and then it is ready; a holder is a running task of its cog, and each running task holds
-- its cog. `Config` keeps this.
--
--   `IsThere`, `AreThere`              an object or a future has an entry; so does each one inside values
--   `IsHolder`, `IsRunningIn`          a task holds a cog; a task runs, and is in a cog
--   `IsCogFormed`, `IsObjectFormed`    what is kept of a cog and of an object
--   `IsFrameFormed`, `IsTaskFormed`    what is kept of a frame and of a task
--   `IsWellFormed`                     what is kept of a configuration
use Rattle.std.specs.Prelude.{◌≡◌, ◌≢◌, ◌<◌, ℕ, List, [], length, slice_get, Some, None}
use Rattle.abs_values.specs.References.{Reference, ToObject, ToFuture, IsIn}
use Rattle.abs_values.specs.Results.{Result, Gives}
use Rattle.abs_values.specs.ValueTrees.{ValueTree}
use Rattle.config_state.specs.Configurations.{ObjectState, FrameState, TaskState, Configuration, Each}
use Rattle.config_state.specs.declared.cog.Cog.{Cog}
use Rattle.config_state.specs.declared.task.State.TheVariants.{Ready, Running}

-- An object has an entry, or the task of a future has one.
abbrev pub IsThere : Configuration → Reference → Type 0
IsThere config (ToObject object) = object < length config.objects
IsThere config (ToFuture task) = task < length config.tasks

-- Each object and each future inside a value has an entry.
abbrev pub ValueIsThere : Configuration → ValueTree → Type 0
ValueIsThere config value = (reference : Reference) → IsIn reference value → IsThere config reference

abbrev pub AreThere : Configuration → List ValueTree → Type 0
AreThere config values = Each values (λ index value. ValueIsThere config value)

-- The task holds the cog.
pub record IsHolder (config : Configuration) (cog task : ℕ) : Type 0 where
  pub entry : Cog
  pub there : slice_get config.cogs cog ≡ Some entry
  pub holds : entry.holder ≡ Some task

-- The task runs, and is in the cog.
pub record IsRunningIn (config : Configuration) (cog index : ℕ) : Type 0 where
  pub task : TaskState
  pub there : slice_get config.tasks index ≡ Some task
  pub in_cog : task.cog ≡ cog
  pub runs : task.state ≡ Running

-- The parent of a cog is an earlier cog, and only cog 0 has none. The holder of a cog runs in it.
pub record IsCogFormed (config : Configuration) (index : ℕ) (cog : Cog) : Type 0 where
  pub parent_earlier : (parent : ℕ) → cog.parent ≡ Some parent → parent < index
  pub first_alone : cog.parent ≡ None → index ≡ 0
  pub holder_runs : (task : ℕ) → cog.holder ≡ Some task → IsRunningIn config index task

-- The cog of an object is there, and so is what its fields hold.
pub record IsObjectFormed (config : Configuration) (object : ObjectState) : Type 0 where
  pub cog_there : object.cog < length config.cogs
  pub fields_there : AreThere config object.fields

-- The object of a frame is there, and so is what its slots hold.
pub record IsFrameFormed (config : Configuration) (frame : FrameState) : Type 0 where
  pub object_there : (object : ℕ) → frame.object ≡ Some object → object < length config.objects
  pub slots_there : AreThere config frame.slots

-- The cog and the object of a task are there, and so is what its frames and its result hold. With a result it has no
-- frame and is ready; without one it has a frame. If it runs, it holds its cog.
pub record IsTaskFormed (config : Configuration) (index : ℕ) (task : TaskState) : Type 0 where
  pub cog_there : task.cog < length config.cogs
  pub object_there : (object : ℕ) → task.object ≡ Some object → object < length config.objects
  pub frames_formed : Each task.frames (λ depth frame. IsFrameFormed config frame)
  pub result_there : (value : ValueTree) → task.outcome ≡ Some (Gives value) → ValueIsThere config value
  pub ended : (result : Result) → task.outcome ≡ Some result → (task.frames ≡ []) × (task.state ≡ Ready)
  pub unfinished : task.outcome ≡ None → task.frames ≢ []
  pub holds_cog : task.state ≡ Running → IsHolder config task.cog index

-- A configuration is well-formed where all its entries are.
pub record IsWellFormed (config : Configuration) : Type 0 where
  pub cogs_formed : Each config.cogs (IsCogFormed config)
  pub objects_formed : Each config.objects (λ index object. IsObjectFormed config object)
  pub tasks_formed : Each config.tasks (IsTaskFormed config)
