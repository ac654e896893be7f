-- Configurations without memory: what there is at a moment of a run. Names are written out. The lists and their indices
-- have no bound.
--
--   `ObjectState`, `FrameState`, `TaskState`   an object, a frame and a task
--   `Configuration`                            cogs, objects and tasks
--   `object_at`, `fields_of`                   the object with an index, and the values of its fields
--   `Each`                                     something is so of each entry of a list
--   `IsUnfinished`                             a task has no result
use Rattle.std.specs.Prelude.{◌≡◌, ℕ, List, [], slice_get, Option, Some, None}
use Rattle.abs_values.specs.Results.{Result}
use Rattle.abs_tree.specs.Syntax.{Name}
use Rattle.abs_values.specs.ValueTrees.{ValueTree}
use Rattle.config_state.specs.declared.cog.Cog.{Cog}
use Rattle.config_state.specs.declared.frame.Target.{Target}
use Rattle.config_state.specs.declared.task.State.{State}

-- an object: the cog that it is in, the offset of the statement that made it, its class, and the values of its fields
pub record ObjectState : Type 0 where
  pub cog : ℕ
  pub place : ℕ
  pub class : Name
  pub fields : List ValueTree

-- a body that a task executes: its method, and the object that `this` is, neither of which the main block has; the
-- values in its slots; the index of its next statement, or nothing where none is left; and where its result goes in the
-- frame below
pub record FrameState : Type 0 where
  pub method : Option Name
  pub object : Option ℕ
  pub slots : List ValueTree
  pub next : Option ℕ
  pub target : Target

-- a task: its cog; the object and the method that were called; the offset of the statement that called it, if one did;
-- the frames that it executes, the innermost first; its state; and its result, once it has one
pub record TaskState : Type 0 where
  pub cog : ℕ
  pub object : Option ℕ
  pub method : Option Name
  pub call : Option ℕ
  pub frames : List FrameState
  pub state : State
  pub outcome : Option Result

-- what there is at a moment of a run
pub record Configuration : Type 0 where
  pub cogs : List Cog
  pub objects : List ObjectState
  pub tasks : List TaskState

-- the object with an index, if there is an index and an object with it
abbrev pub object_at : Configuration → Option ℕ → Option ObjectState
object_at config None = None
object_at config (Some object) = slice_get config.objects object

-- the values of the fields of an object; where there is no object, as in the main block, there is no field
abbrev pub fields_of : Option ObjectState → List ValueTree
fields_of None = []
fields_of (Some object) = object.fields

-- Something is so of each entry of a list and its index.
abbrev pub Each : {A : Type 0} → List A → (ℕ → A → Type 0) → Type 0
Each {A} list is = (index : ℕ) (entry : A) → slice_get list index ≡ Some entry → is index entry

-- The task with an index is there, and has no result.
pub record IsUnfinished (config : Configuration) (index : ℕ) : Type 0 where
  pub task : TaskState
  pub there : slice_get config.tasks index ≡ Some task
  pub open_still : task.outcome ≡ None
