-- Which tasks wait for which others, and circles of them.
--
--   `NamesSlot`                    a statement names a slot whose future it waits for
--   `IsAtWait`                     a task that is not ready is at a statement
--   `NamesUnfinished`              a task is at a statement that names the future of an unfinished task
--   `CogIsHeld`                    the cog of a task is held by another one, which is at an open get
--   `WaitsFor`                     a task waits for another one: for one of these two reasons
--   `LeadsRound`, `GoesRound`      each of different tasks leads to the next one, and the last one to the first
--   `IsCircularWait`               each task of a list waits for the next one, and the last one for the first
use Rattle.std.specs.Prelude.{◌≡◌, ◌≢◌, ◌⊎◌, ℕ, nat_eq, List, [], ◌∷◌, slice_get, Option, Some}
use Rattle.std.specs.List.{IsDistinct}
use Rattle.abs_program.specs.Control.{Point}
use Rattle.abs_program.specs.Instructions.{EffectTree, Awaits, Gets, effect_of}
use Rattle.abs_tree.specs.Syntax.{VariableTree, ProgramTree}
use Rattle.abs_values.specs.ValueTrees.{FutureValue}
use Rattle.config_state.specs.Configurations.{FrameState, TaskState, Configuration, IsUnfinished}
use Rattle.config_state.specs.OfProgram.{next_point}
use Rattle.config_state.specs.declared.cog.Cog.{Cog}
use Rattle.config_state.specs.declared.task.State.TheVariants.{Ready}
use Rattle.step_rules.specs.Blocked.{IsAtOpenGet}

-- The statement names the slot, by `get` or by `await`.
pub data NamesSlot : EffectTree → ℕ → Type 0 where
  ByGet : (slot : ℕ) (target : Option VariableTree) → NamesSlot (Gets (Some slot) target) slot
  ByAwait : (slots : List (Option ℕ)) (part slot : ℕ) → slice_get slots part ≡ Some (Some slot)
      → NamesSlot (Awaits slots) slot

-- The task is not ready, and this is the next statement of its innermost frame.
pub record IsAtWait (program : ProgramTree) (config : Configuration) (index : ℕ) (point : Point) : Type 0 where
  pub task : TaskState
  pub there : slice_get config.tasks index ≡ Some task
  pub not_ready : task.state ≢ Ready
  pub frame : FrameState
  pub innermost : slice_get task.frames 0 ≡ Some frame
  pub next : next_point program frame ≡ Some point

-- The task is at a statement that names a slot with the future of another task, which is unfinished.
pub record NamesUnfinished (program : ProgramTree) (config : Configuration) (index other : ℕ) : Type 0 where
  pub point : Point
  pub at : IsAtWait program config index point
  pub slot : ℕ
  pub names : NamesSlot (effect_of point.statement) slot
  pub holds : slice_get at.frame.slots slot ≡ Some (FutureValue other)
  pub unfinished : IsUnfinished config other

-- The task is unfinished, and another task holds its cog and is at a get of an unresolved future.
pub record CogIsHeld (program : ProgramTree) (config : Configuration) (index other : ℕ) : Type 0 where
  pub waiting : IsUnfinished config index
  pub cog : Cog
  pub cog_there : slice_get config.cogs waiting.task.cog ≡ Some cog
  pub held : cog.holder ≡ Some other
  pub another : index ≢ other
  pub holder : TaskState
  pub holder_there : slice_get config.tasks other ≡ Some holder
  pub at_get : IsAtOpenGet program config holder

-- The task waits for the other one: it names its future, which is unresolved, or the other one holds its cog at a get.
abbrev pub WaitsFor : ProgramTree → Configuration → ℕ → ℕ → Type 0
WaitsFor program config index other = NamesUnfinished program config index other ⊎ CogIsHeld program config index other

-- Each task from this one on leads to the next one, and the last one to the goal.
abbrev pub LeadsRound : (ℕ → ℕ → Type 0) → ℕ → ℕ → List ℕ → Type 0
LeadsRound Next goal task [] = Next task goal
LeadsRound Next goal task (next ∷ others) = Next task next × LeadsRound Next goal next others

-- The list is not empty, its tasks are different, and each leads to the next one, the last one to the first.
abbrev pub GoesRound : (ℕ → ℕ → Type 0) → List ℕ → Type 0
GoesRound Next [] = ⊥
GoesRound Next (first ∷ others) = IsDistinct nat_eq (first ∷ others) × LeadsRound Next first first others

-- The tasks of the list wait for one another in a circle.
abbrev pub IsCircularWait : ProgramTree → Configuration → List ℕ → Type 0
IsCircularWait program config circle = GoesRound (WaitsFor program config) circle
