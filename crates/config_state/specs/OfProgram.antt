-- Configurations of a program: objects have a class of it, and frames a body of it. This is a condition of every call
-- that takes a program and a configuration.
--
--   `IsObjectOf`, `IsFrameOf`      an object and a frame are of the program
--   `TargetIsIn`                   a target is in the frame below
--   `next_point`                   the next statement of a frame, with where control goes after it
--   `IsAtGuard`                    the next statement is an `await`, and each local that it names holds a future
--   `IsConfigOf`                   a configuration is of the program
use Rattle.std.specs.Prelude.{◌≡◌, ◌<◌, ⊤, ℕ, suc, ◌+◌, List, length, slice_get, Option, Some, None, option_and_then}
use Rattle.abs_program.specs.Bodies.{ClassEntryTree}
use Rattle.abs_program.specs.Control.{Point, program_points}
use Rattle.abs_program.specs.Instructions.{Awaits, effect_of}
use Rattle.abs_program.specs.Slots.{body_slots}
use Rattle.abs_tree.specs.Syntax.{ProgramTree}
use Rattle.abs_tree.specs.SyntaxCounts.{count_exprs}
use Rattle.abs_values.specs.ValueTrees.{FutureValue}
use Rattle.abs_program.specs.ProgramBodies.{BodyAt, IsStatementOf}
use Rattle.config_state.specs.Bodies.{class_taking, body_of}
use Rattle.config_state.specs.Configurations.{ObjectState, FrameState, TaskState, Configuration, object_at, fields_of, Each}
use Rattle.config_state.specs.declared.frame.Target.{Target}
use Rattle.config_state.specs.declared.frame.Target.TheVariants.{Nothing, Local, Field}
use Rattle.config_state.specs.declared.task.State.TheVariants.{Awaiting}

-- The object has a class of the program, and as many fields as it.
pub record IsObjectOf (program : ProgramTree) (object : ObjectState) : Type 0 where
  pub class : ClassEntryTree
  pub class_there : class_taking program object.class ≡ Some class
  pub fields_are : length object.fields ≡ class.params + count_exprs class.initials

-- The frame is that of a method of the class of its object, or of the main block. It has the slots of its body, and its
-- next statement is one of its body, if one is left.
pub record IsFrameOf (program : ProgramTree) (config : Configuration) (frame : FrameState) : Type 0 where
  pub body : BodyAt
  pub body_there : body_of program config frame ≡ Some body
  pub slots_are : length frame.slots ≡ length (body_slots body.params body.statements)
  pub next_is : (index : ℕ) → frame.next ≡ Some index → IsStatementOf body index

-- The target is nothing, a slot of the frame below, or a field of the object of the frame below. Where there is no
-- frame below, it is nothing.
abbrev pub TargetIsIn : Configuration → Option FrameState → Target → Type 0
TargetIsIn config below Nothing = ⊤
TargetIsIn config (Some below) (Local slot) = slot < length below.slots
TargetIsIn config (Some below) (Field field) = field < length (fields_of (object_at config below.object))
TargetIsIn config None (Local slot) = ⊥
TargetIsIn config None (Field field) = ⊥

-- the next statement of a frame, with where control goes after it, if one is left
abbrev pub next_point : ProgramTree → FrameState → Option Point
next_point program frame = option_and_then (slice_get (program_points program.source)) frame.next

-- The next statement of the frame is an `await`, and each local that it names holds a future.
pub record IsAtGuard (program : ProgramTree) (frame : FrameState) : Type 0 where
  pub point : Point
  pub point_there : next_point program frame ≡ Some point
  pub named : List (Option ℕ)
  pub awaits : effect_of point.statement ≡ Awaits named
  pub futures : Each named (λ index name. (slot : ℕ) × (future : ℕ) × (name ≡ Some slot)
      × (slice_get frame.slots slot ≡ Some (FutureValue future)))

-- The frames of a task are of the program, the target of each is in the frame below, and an awaiting task is at a
-- guard.
pub record IsTaskOf (program : ProgramTree) (config : Configuration) (task : TaskState) : Type 0 where
  pub frames_are : Each task.frames (λ depth frame. IsFrameOf program config frame)
  pub targets_are : Each task.frames (λ depth frame.
      TargetIsIn config (slice_get task.frames (suc depth)) frame.target)
  pub awaiting : task.state ≡ Awaiting → (frame : FrameState) → slice_get task.frames 0 ≡ Some frame
      → IsAtGuard program frame

-- The configuration is of the program: its objects and its tasks are.
pub record IsConfigOf (program : ProgramTree) (config : Configuration) : Type 0 where
  pub objects_are : Each config.objects (λ index object. IsObjectOf program object)
  pub tasks_are : Each config.tasks (λ index task. IsTaskOf program config task)
