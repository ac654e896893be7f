-- The first two steps of an event: what is evaluated, and what that gives.
--
--   `scope_of`                         what the expressions of a frame can read
--   `exprs_at`, `initials_at`          the expressions of a statement, and for `new` the initial values of fields
--   `Input`, `input_of`                the input of a task: its scope and its expressions; none unless it runs
--   `output_of`                        the output: what evaluation gives for an input
use Rattle.std.specs.Prelude.{ℕ, List, [], ◌∷◌, slice_get, Option, Some, None}
use Rattle.abs_program.specs.Bodies.{ClassEntryTree}
use Rattle.abs_program.specs.Control.{Point}
use Rattle.abs_values.specs.Evaluation.{results_of}
use Rattle.abs_program.specs.Instructions.{EffectTree, Makes, expr_trees_of, effect_of}
use Rattle.abs_values.specs.Results.{Results}
use Rattle.abs_values.specs.Scopes.{Scope, library_of}
use Rattle.abs_tree.specs.Syntax.{ExprTrees, NoExpr, ProgramTree}
use Rattle.config_state.specs.Bodies.{class_taking}
use Rattle.config_state.specs.Configurations.{FrameState, TaskState, Configuration, object_at, fields_of}
use Rattle.config_state.specs.OfProgram.{next_point}
use Rattle.config_state.specs.declared.task.State.{State}
use Rattle.config_state.specs.declared.task.State.TheVariants.{Ready, Running, Awaiting}

-- what the expressions of a frame can read: its object, its slots, and the fields of its object
abbrev pub scope_of : Configuration → FrameState → Scope
scope_of config frame = record {
  this = frame.object;
  slots = frame.slots;
  fields = fields_of (object_at config frame.object);
  bound = [];
}

-- what a task evaluates for its event: the scope, the expressions of its next statement, and for `new` also the initial
-- values of the fields of the class
pub record Input : Type 0 where
  pub scope : Scope
  pub expr_trees : ExprTrees
  pub initials : ExprTrees

-- the expressions of a statement; none where no statement is left
abbrev pub exprs_at : Option Point → ExprTrees
exprs_at None = NoExpr
exprs_at (Some point) = expr_trees_of point.statement

-- the initial values of the fields of a class, if there is that class
abbrev pub initials_of : Option ClassEntryTree → ExprTrees
initials_of None = NoExpr
initials_of (Some class) = class.initials

-- the initial values that a statement needs: for `new` those of its class
abbrev pub initials_for : ProgramTree → EffectTree → ExprTrees
initials_for program (Makes mode class target) = initials_of (class_taking program class)
initials_for program _ = NoExpr

abbrev pub initials_at : ProgramTree → Option Point → ExprTrees
initials_at program None = NoExpr
initials_at program (Some point) = initials_for program (effect_of point.statement)

-- the input in a frame where nothing is evaluated
abbrev pub idle_input : Configuration → FrameState → Input
idle_input config frame = record { scope = scope_of config frame; expr_trees = NoExpr; initials = NoExpr }

-- the input in the innermost frame of a task; only a task that runs evaluates something
abbrev pub input_in : ProgramTree → Configuration → State → FrameState → Input
input_in program config Running frame = record {
  scope = scope_of config frame;
  expr_trees = exprs_at (next_point program frame);
  initials = initials_at program (next_point program frame);
}
input_in program config Ready frame = idle_input config frame
input_in program config Awaiting frame = idle_input config frame

abbrev pub input_with : ProgramTree → Configuration → State → List FrameState → Option Input
input_with program config state [] = None
input_with program config state (frame ∷ others) = Some (input_in program config state frame)

abbrev pub input_of_task : ProgramTree → Configuration → Option TaskState → Option Input
input_of_task program config None = None
input_of_task program config (Some task) = input_with program config task.state task.frames

-- the input of the task with an index, if it is there and has a frame
unfoldable pub input_of : ProgramTree → Configuration → ℕ → Option Input
input_of program config index = input_of_task program config (slice_get config.tasks index)

-- the output for an input
unfoldable pub output_of : ProgramTree → Input → Results
output_of program input = results_of (library_of program) input.scope input.expr_trees input.initials
