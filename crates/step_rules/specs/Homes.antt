-- What holds in each configuration that a legal history reaches, besides that it is well-formed and of the program.
--
--   `IsHome`                   an object, if there is one, is in this cog
--   `IsMade`                   a `new` at the object's place makes its class
--   `IsCogMade`                a `new cog` is at the cog's place
--   `IsTaskHoused`             the objects of a task and of its frames are in its cog
--   `IsMainTask`               a task is in cog 0, and has no object, no method and no call
--   `IsMethodTask`             the class of a task's object has its method
--   `IsCalled`                 a task is that of the main block, or of a method
--   `IsHoused`                 the program made objects, cogs and tasks, and tasks are at home
use Rattle.std.specs.Prelude.{◌≡◌, ◌<◌, ℕ, suc, slice_get, Option, Some, None}
use Rattle.abs_program.specs.Control.{Point, program_points}
use Rattle.abs_program.specs.Instructions.{Makes, effect_of}
use Rattle.abs_program.specs.ProgramBodies.{BodyAt}
use Rattle.abs_tree.specs.Syntax.{Name, VariableTree, ProgramTree}
use Rattle.abs_tree.specs.declared.syntax.statement.Mode.{Mode}
use Rattle.abs_tree.specs.declared.syntax.statement.Mode.TheVariants as mode
use Rattle.config_state.specs.Bodies.{method_at}
use Rattle.config_state.specs.Configurations.{ObjectState, TaskState, Configuration, Each}
use Rattle.config_state.specs.declared.cog.Cog.{Cog}
use Rattle.step_rules.specs.Lookups.{place_of}

-- The object, if there is one, is in this cog.
abbrev pub IsHome : Configuration → ℕ → Option ℕ → Type 0
IsHome config cog object = (index : ℕ) → object ≡ Some index
    → (cell : ObjectState) × (slice_get config.objects index ≡ Some cell) × (cell.cog ≡ cog)

-- A `new` at the place of an object makes its class. Several statements could have one place.
pub record IsMade (program : ProgramTree) (object : ObjectState) : Type 0 where
  pub statement : ℕ
  pub point : Point
  pub there : slice_get (program_points program.source) statement ≡ Some point
  pub mode : Mode
  pub target : Option VariableTree
  pub makes : effect_of point.statement ≡ Makes mode object.class target
  pub at_place : place_of point ≡ object.place

-- A `new cog` is at the place of a cog. Several statements could have one place.
pub record IsCogMade (program : ProgramTree) (cog : Cog) : Type 0 where
  pub statement : ℕ
  pub point : Point
  pub there : slice_get (program_points program.source) statement ≡ Some point
  pub class : Name
  pub target : Option VariableTree
  pub makes : effect_of point.statement ≡ Makes mode.Cog class target
  pub at_place : place_of point ≡ cog.place

-- The object of each frame of a task, and that of the task, is in the task's cog. The outermost frame has the task's
-- object and method.
pub record IsTaskHoused (config : Configuration) (task : TaskState) : Type 0 where
  pub own : IsHome config task.cog task.object
  pub frames : Each task.frames (λ depth frame. IsHome config task.cog frame.object)
  pub outermost : Each task.frames (λ depth frame. slice_get task.frames (suc depth) ≡ None
      → (frame.object ≡ task.object) × (frame.method ≡ task.method))

-- The task is in cog 0, and has no object, no method and no call, as that of the main block.
pub record IsMainTask (task : TaskState) : Type 0 where
  pub in_first : task.cog ≡ 0
  pub no_object : task.object ≡ None
  pub no_method : task.method ≡ None
  pub no_call : task.call ≡ None

-- The task has an object and a method, and the class of the object has the method.
pub record IsMethodTask (program : ProgramTree) (config : Configuration) (task : TaskState) : Type 0 where
  pub object : ℕ
  pub cell : ObjectState
  pub method : Name
  pub body : BodyAt
  pub object_is : task.object ≡ Some object
  pub there : slice_get config.objects object ≡ Some cell
  pub method_is : task.method ≡ Some method
  pub body_there : method_at program cell.class method ≡ Some body

-- A task, ended or not, is that of the main block, which has index 0, or that of a method of the class of its object,
-- which has another index.
pub data IsCalled (program : ProgramTree) (config : Configuration) (index : ℕ) (task : TaskState) : Type 0 where
  OfMain : index ≡ 0 → IsMainTask task → IsCalled program config index task
  OfMethod : 0 < index → IsMethodTask program config task → IsCalled program config index task

-- Objects were made by statements of the program, and so was each cog that has a parent. Tasks are at home, and each is
-- that of the main block or of a method.
pub record IsHoused (program : ProgramTree) (config : Configuration) : Type 0 where
  pub objects_made : Each config.objects (λ index object. IsMade program object)
  pub cogs_made : Each config.cogs (λ index cog. (parent : ℕ) → cog.parent ≡ Some parent → IsCogMade program cog)
  pub tasks_housed : Each config.tasks (λ index task. IsTaskHoused config task)
  pub tasks_called : Each config.tasks (IsCalled program config)
