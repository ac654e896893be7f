-- Configurations that are well typed.
--
--   `world_of`                         what the values of a configuration refer to
--   `above`                            the target of the frame above a frame
--   `IsFrameTyped`                     a frame: what its slots hold
--   `target_takes`, `FitsTarget`       the type that a target takes, and that the result of a frame fits it
--   `IsTaskTyped`, `IsObjectTyped`     a task and an object
--   `IsWellTyped`                      a configuration
use Rattle.std.specs.Prelude.{◌≡◌, ◌≢◌, ◌⊎◌, ◌<◌, ℕ, zero, suc, true, List, map, slice_get, Option, Some, None, option_and_then}
use Rattle.abs_tree.specs.Syntax.{ProgramTree}
use Rattle.abs_types.specs.OperatorTypes.{unit_type}
use Rattle.abs_types.specs.PlainTypes.{PlainType}
use Rattle.abs_types.specs.Subtyping.{fits}
use Rattle.abs_types.specs.Typing.{known_at}
use Rattle.abs_values.specs.Results.{Gives, Fails}
use Rattle.abs_values.specs.ValueTrees.{ValueTree, NullValue}
use Rattle.abs_values.specs.declared.evaluated.Fault.TheVariants as fault
use Rattle.config_state.specs.Configurations.{ObjectState, FrameState, TaskState, Configuration, Each}
use Rattle.config_state.specs.declared.frame.Target.{Target}
use Rattle.config_state.specs.declared.frame.Target.TheVariants.{Nothing, Local, Field}
use Rattle.type_sound.specs.Routines.{Routine, fields_of_class, routine_of, result_of_task}
use Rattle.type_sound.specs.Values.{World, ValueHas}
use Rattle.type_sound.specs.Visible.{IsVisible}

-- the class of each object of a configuration, and the result type of each task
unfoldable pub world_of : ProgramTree → Configuration → World
world_of program config = record {
  classes = map (λ (object : ObjectState). object.class) config.objects;
  results = map (λ (task : TaskState). result_of_task program config task) config.tasks;
}

-- the target of a frame, if there is a frame
abbrev pub target_in : Option FrameState → Target
target_in None = Nothing
target_in (Some frame) = frame.target

-- the target of the frame above the frame at an index; above the innermost one there is none
abbrev pub above : List FrameState → ℕ → Target
above frames zero = Nothing
above frames (suc index) = target_in (slice_get frames index)

-- the slot holds a value of its declared type, if it has one
abbrev pub SlotHas : ProgramTree → Configuration → Routine → FrameState → ℕ → Type 0
SlotHas program config routine frame slot = (value : ValueTree) (type : PlainType)
    → slice_get frame.slots slot ≡ Some value → known_at routine.slots slot ≡ Some type
    → ValueHas program (world_of program config) value type

-- What the slots of a frame hold. Each holds null or a value of its declared type. That of a parameter holds a value of
-- it, and so does one that is visible at the next statement, unless it is the target of the frame above. Where no
-- statement is left, the result type is `Unit`.
pub record IsFrameTyped (program : ProgramTree) (config : Configuration) (pending : Target) (frame : FrameState)
    : Type 0 where
  pub routine : Routine
  pub there : routine_of program config frame ≡ Some routine
  pub slots : (slot : ℕ) (value : ValueTree) (type : PlainType) → slice_get frame.slots slot ≡ Some value
      → known_at routine.slots slot ≡ Some type
      → (value ≡ NullValue) ⊎ ValueHas program (world_of program config) value type
  pub params : (slot : ℕ) → slot < routine.body.params → SlotHas program config routine frame slot
  pub seen : (statement slot : ℕ) → frame.next ≡ Some statement → IsVisible program statement slot
      → pending ≢ Local slot → SlotHas program config routine frame slot
  pub ends : frame.next ≡ None → routine.result ≡ unit_type

-- the type that a target in a frame takes, if it takes one
abbrev pub target_type_in : Routine → Target → Option PlainType
target_type_in routine Nothing = None
target_type_in routine (Local slot) = known_at routine.slots slot
target_type_in routine (Field field) = slice_get routine.start.fields field

abbrev pub target_takes : ProgramTree → Configuration → FrameState → Target → Option PlainType
target_takes program config below target =
    option_and_then (λ (routine : Routine). target_type_in routine target) (routine_of program config below)

-- The result type of a frame fits the type that its target takes in the frame below.
pub record FitsTarget (program : ProgramTree) (config : Configuration) (frame below : FrameState) : Type 0 where
  pub fit : (routine : Routine) (type : PlainType) → routine_of program config frame ≡ Some routine
      → target_takes program config below frame.target ≡ Some type
      → fits program.source.declarations routine.result type ≡ true

-- The frames of a task are well typed, the result type of each fits its target, and the result of the task has the
-- result type, or is a fault other than Mistyped.
pub record IsTaskTyped (program : ProgramTree) (config : Configuration) (task : TaskState) : Type 0 where
  pub frames : Each task.frames (λ index frame. IsFrameTyped program config (above task.frames index) frame)
  pub targets : Each task.frames (λ index frame. (below : FrameState) → slice_get task.frames (suc index) ≡ Some below
      → FitsTarget program config frame below)
  pub result : (value : ValueTree) → task.outcome ≡ Some (Gives value)
      → ValueHas program (world_of program config) value (result_of_task program config task)
  pub no_type_fault : task.outcome ≢ Some (Fails fault.Mistyped)

-- Each field of an object has its declared type.
pub record IsObjectTyped (program : ProgramTree) (config : Configuration) (object : ObjectState) : Type 0 where
  pub fields : (field : ℕ) (value : ValueTree) (type : PlainType) → slice_get object.fields field ≡ Some value
      → slice_get (fields_of_class program object.class) field ≡ Some type
      → ValueHas program (world_of program config) value type

-- The objects and the tasks of a configuration are well typed.
pub record IsWellTyped (program : ProgramTree) (config : Configuration) : Type 0 where
  pub objects : Each config.objects (λ index object. IsObjectTyped program config object)
  pub tasks : Each config.tasks (λ index task. IsTaskTyped program config task)
