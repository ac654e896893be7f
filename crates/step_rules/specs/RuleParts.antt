-- What the rules of the table say of the task that moves.
--
--   `IsRunner`, `IsRunningAt`         the task runs in its innermost frame, and its next statement gives these values
--   `CanTake`                  a task waits for nothing but its cog
--   `IsValueOf`                the value with which a frame ends
use Rattle.std.specs.Prelude.{◌≡◌, ℕ, List, [], ◌∷◌, slice_get, Option, Some, None}
use Rattle.abs_program.specs.Control.{Point}
use Rattle.abs_values.specs.Evaluation.{results_of}
use Rattle.abs_program.specs.Instructions.{Awaits, Returns, expr_trees_of, effect_of}
use Rattle.abs_values.specs.Results.{AllGive}
use Rattle.abs_values.specs.Scopes.{library_of}
use Rattle.abs_tree.specs.Syntax.{ProgramTree}
use Rattle.abs_values.specs.ValueTrees.{ValueTree}
use Rattle.config_state.specs.Configurations.{FrameState, TaskState, Configuration}
use Rattle.config_state.specs.OfProgram.{next_point}
use Rattle.config_state.specs.declared.task.State.TheVariants.{Ready, Running, Awaiting}
use Rattle.step_rules.specs.Inputs.{scope_of, initials_for}
use Rattle.step_rules.specs.Lookups.{Runner, unit_value}
use Rattle.step_rules.specs.WaitRules.{Resolved, guard_of}

-- The task runs, has no result, and its innermost frame is this one.
pub record IsRunner (config : Configuration) (at : Runner) : Type 0 where
  pub there : slice_get config.tasks at.index ≡ Some at.task
  pub open_still : at.task.outcome ≡ None
  pub runs : at.task.state ≡ Running
  pub frames_are : at.task.frames ≡ at.frame ∷ at.others

-- The next statement of the task is this one, and its expressions give these values.
pub record IsRunningAt (program : ProgramTree) (config : Configuration) (at : Runner) (point : Point) (values : List ValueTree)
    : Type 0 where
  pub runner : IsRunner config at
  pub point_there : next_point program at.frame ≡ Some point
  pub gives : results_of (library_of program) (scope_of config at.frame) (expr_trees_of point.statement)
      (initials_for program (effect_of point.statement)) ≡ AllGive values

-- A task is ready, or it waits at an `await` whose futures are all resolved.
pub data CanTake (program : ProgramTree) (config : Configuration) (task : TaskState) : Type 0 where
  IsReady : task.state ≡ Ready → CanTake program config task
  IsWoken : (frame : FrameState) (others : List FrameState) (point : Point) (names : List (Option ℕ))
      → task.state ≡ Awaiting → task.frames ≡ frame ∷ others → next_point program frame ≡ Some point
      → effect_of point.statement ≡ Awaits names → guard_of config frame.slots names ≡ Resolved
      → CanTake program config task

-- A frame ends with a value: `Unit` where no statement is left, or that of a `return`.
pub data IsValueOf (program : ProgramTree) (config : Configuration) (at : Runner) (value : ValueTree) : Type 0 where
  AtEnd : at.frame.next ≡ None → value ≡ unit_value program.names → IsValueOf program config at value
  ByReturn : (point : Point) → IsRunningAt program config at point (value ∷ []) → effect_of point.statement ≡ Returns
      → IsValueOf program config at value
