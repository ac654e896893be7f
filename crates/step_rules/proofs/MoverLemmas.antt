-- What the code has of a task that moves.
--
--   `goes_is`, `goes_to`       where control goes after its next statement
--   `place_is`, `does`         where that statement is, and what it does
--   `object_is`, `slots_are`   the object and the slots of its innermost frame
--   `cog_is`                   its cog
--   `counted`, `count_is`      how many frames it has
use Rattle.std.proofs.Common.{◌≡◌, suc, Bool, List, ◌∷◌, length, map, sym, ap, ◌∙◌}
use Rattle.std.proofs.lemmas.List.{length-map, length-reverse}
use Rattle.abs_program.specs.Control.{Point}
use Rattle.abs_program.specs.InstructionViews.{effect_tree, goes_tree}
use Rattle.abs_program.specs.Instructions.{InstructionTree, effect_of}
use Rattle.abs_tree.specs.Syntax.{Name}
use Rattle.abs_program.specs.declared.tables.control.Effect.{Effect}
use Rattle.config_state.specs.Configurations.{FrameState, TaskState}
use Rattle.config_state.specs.Views.{frame_state, task_state}
use Rattle.config_state.specs.declared.task.TaskCell.{TaskCell}
use Rattle.step_rules.specs.Lookups.{Runner, place_of, successor}
use Rattle.step_rules.specs.Moves.{Moves, names_of}
use Rattle.step_rules.specs.declared.mover.Mover.{Mover}

-- the successors of its next statement are those of the instruction
pub goes_is : (mover : Mover) (at : Runner) (point : Point) → Moves mover at point
    → goes_tree mover.instruction.now.goes ≡ point.goes
goes_is mover at point moves = ap (λ (one : InstructionTree). one.goes) moves.instruction_is

-- after its next statement control goes where the instruction says
pub goes_to : (mover : Mover) (at : Runner) (point : Point) (answer : Bool) → Moves mover at point
    → successor (goes_tree mover.instruction.now.goes) answer ≡ successor point.goes answer
goes_to mover at point answer moves = ap (λ (one : InstructionTree). successor one.goes answer) moves.instruction_is

-- its next statement is where the instruction says
pub place_is : (mover : Mover) (at : Runner) (point : Point) → Moves mover at point
    → mover.instruction.now.place ≡ place_of point
place_is mover at point moves = ap (λ (one : InstructionTree). one.place) moves.instruction_is

-- its next statement does what the instruction says
pub does : (mover : Mover) (at : Runner) (point : Point) (effect : Effect) → Moves mover at point
    → mover.instruction.now.effect ≡ effect → effect_tree (names_of mover) effect ≡ effect_of point.statement
does mover at point effect moves is = ap (effect_tree (names_of mover)) (sym is)
    ∙ ap (λ (one : InstructionTree). one.effect) moves.instruction_is

-- the object of its innermost frame is that of the code's frame
pub object_is : (mover : Mover) (at : Runner) (point : Point) → Moves mover at point
    → at.frame.object ≡ mover.frame.now.object
object_is mover at point moves = ap (λ (frame : FrameState). frame.object) moves.frame_is

-- the slots of its innermost frame are those of the code's frame
pub slots_are : (mover : Mover) (at : Runner) (point : Point) → Moves mover at point
    → at.frame.slots ≡ mover.frame.now.slots
slots_are mover at point moves = ap (λ (frame : FrameState). frame.slots) moves.frame_is

-- its cog is that of the code's task
pub cog_is : (mover : Mover) (at : Runner) (point : Point) → Moves mover at point
    → mover.cell.now.cog ≡ at.task.cog
cog_is mover at point moves = ap (λ (task : TaskState). task.cog) (sym moves.task_is)

-- a task has one frame more than there are below its innermost one
pub counted : (names : List Name) (cell : TaskCell) (frame : FrameState) (others : List FrameState)
    → (task_state names cell).frames ≡ frame ∷ others → length cell.frames ≡ suc (length others)
counted names cell frame others is = sym (length-reverse (map (frame_state names) cell.frames)
    ∙ length-map cell.frames (frame_state names)) ∙ ap (λ (frames : List FrameState). length frames) is

-- so does the task that moves
pub count_is : (mover : Mover) (at : Runner) (point : Point) → Moves mover at point
    → length mover.cell.now.frames ≡ suc (length at.others)
count_is mover at point moves = counted (names_of mover) mover.cell.now at.frame at.others
    (ap (λ (task : TaskState). task.frames) (sym moves.task_is) ∙ moves.frames_are)
