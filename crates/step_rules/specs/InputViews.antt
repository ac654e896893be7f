-- The inputs of the code without their memory, and what they are made from.
--
--   `initials_tree`            the initial values of fields
--   `input_tree`               an input
--   `IsSameInput`              two inputs are the same
--   `running_point`            the next statement of a task that runs
--   `exprs_by`, `class_made`           the expressions of an instruction, and the class of a `new`
use Rattle.std.specs.Prelude.{◌≡◌, List, Option, Some, None}
use Rattle.abs_program.specs.Bodies.{ClassEntryTree}
use Rattle.abs_program.specs.Control.{Point}
use Rattle.abs_program.specs.InstructionViews.{exprs_tree, shared_expr_trees}
use Rattle.abs_program.specs.Instructions.{EffectTree, Makes, InstructionTree}
use Rattle.abs_tree.specs.Syntax.{Name, ExprTrees, NoExpr, ProgramTree}
use Rattle.config_state.specs.Bodies.{class_taking}
use Rattle.config_state.specs.Configurations.{FrameState}
use Rattle.config_state.specs.OfProgram.{next_point}
use Rattle.config_state.specs.declared.task.State.{State}
use Rattle.config_state.specs.declared.task.State.TheVariants.{Ready, Running, Awaiting}
use Rattle.fun_eval.specs.Reading.{env_scope}
use Rattle.step_rules.specs.Inputs.{Input as InputTree}
use Rattle.step_rules.specs.declared.inputs.Initials.{Initials}
use Rattle.step_rules.specs.declared.inputs.Initials.TheVariants as initials
use Rattle.step_rules.specs.declared.inputs.Input.{Input}

-- the initial values of fields
abbrev pub initials_tree : List Name → Initials → ExprTrees
initials_tree names initials.None = NoExpr
initials_tree names (initials.Row row) = shared_expr_trees names row.value.items

-- an input
abbrev pub input_tree : List Name → Input → InputTree
input_tree names input = record {
  scope = env_scope input.env;
  expr_trees = exprs_tree names input.exprs;
  initials = initials_tree names input.inits;
}

-- Two inputs have the same tree, whatever names the symbols in them have.
abbrev pub IsSameInput : Input → Input → Type 0
IsSameInput left right = (names : List Name) → input_tree names left ≡ input_tree names right

-- the next statement in the innermost frame of a task; only a task that runs evaluates its expressions
abbrev pub running_point : ProgramTree → State → FrameState → Option Point
running_point program Running frame = next_point program frame
running_point program Ready frame = None
running_point program Awaiting frame = None

-- the expressions of an instruction, if there is one
abbrev pub exprs_by : Option InstructionTree → ExprTrees
exprs_by None = NoExpr
exprs_by (Some instruction) = instruction.expr_trees

-- what a new object takes, by the effect of a statement: for `new` what its class has, if that is there
abbrev pub class_by : ProgramTree → EffectTree → Option ClassEntryTree
class_by program (Makes mode class target) = class_taking program class
class_by program _ = None

-- what a new object takes, by the instruction of a statement, if there is one
abbrev pub class_made : ProgramTree → Option InstructionTree → Option ClassEntryTree
class_made program None = None
class_made program (Some instruction) = class_by program instruction.effect
