-- The task that moves, where the code has it.
--
--   `names_of`, `program_of`, `config_of`      the names, the program and the configuration around it
--   `Moves`                                    a runner is the task that moves, and a point its next statement
use Rattle.std.specs.Prelude.{◌≡◌, List, ◌∷◌, None}
use Rattle.abs_program.specs.Control.{Point}
use Rattle.abs_program.specs.InstructionViews.{instruction_tree}
use Rattle.abs_program.specs.Instructions.{instruction_of}
use Rattle.abs_program.specs.NamedViews.{program_tree}
use Rattle.abs_tree.specs.Syntax.{Name, ProgramTree}
use Rattle.config_state.specs.ConfigViews.{configuration}
use Rattle.config_state.specs.Configurations.{Configuration}
use Rattle.config_state.specs.Views.{frame_state, task_state}
use Rattle.step_rules.specs.Lookups.{Runner}
use Rattle.step_rules.specs.declared.mover.Mover.{Mover}

-- the names, the program and the configuration around the task that moves
abbrev pub names_of : Mover → List Name
names_of mover = mover.program.now.symbols

abbrev pub program_of : Mover → ProgramTree
program_of mover = program_tree mover.program.now

abbrev pub config_of : Mover → Configuration
config_of mover = configuration (names_of mover) mover.config.now

-- The runner is the task that moves, which has no result, and the point is its next statement.
pub record Moves (mover : Mover) (at : Runner) (point : Point) : Type 0 where
  pub task_is : at.task ≡ task_state (names_of mover) mover.cell.now
  pub frame_is : at.frame ≡ frame_state (names_of mover) mover.frame.now
  pub frames_are : at.task.frames ≡ at.frame ∷ at.others
  pub open_still : at.task.outcome ≡ None
  pub instruction_is : instruction_tree (names_of mover) mover.instruction.now ≡ instruction_of point
