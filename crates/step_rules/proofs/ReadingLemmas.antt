-- The input of a task, by the instruction that the code finds in its innermost frame.
--
--   `instruction_found`        the next instruction of a frame
--   `none_found`               a task without a frame has no input
--   `input_if_event`           a task that has an event has an input
--   `input_found`              the input of a task with a frame
--   `output_found`             the output of it
use Rattle.std.proofs.Common.{◌≡◌, ℕ, List, [], ◌∷◌, slice_get, Option, Some, None, IsSome, option_and_then, option_map, refl, sym, ap, ◌∙◌}
use Rattle.std.proofs.lemmas.Option.{same_Some, slice_get-map}
use Rattle.abs_program.specs.Bodies.{ClassEntryTree}
use Rattle.abs_program.specs.Control.{Point, program_points}
use Rattle.abs_values.specs.Evaluation.{results_of}
use Rattle.abs_program.specs.Instructions.{EffectTree, Skips, Suspends, Awaits, Chooses, Returns, Prints, Clears, Stores, Makes, Sends, CallsOwn, CallsOther, Gets, effect_of, InstructionTree, instruction_of, instructions}
use Rattle.abs_values.specs.Scopes.{Scope, library_of}
use Rattle.abs_tree.specs.Syntax.{ExprTrees, ProgramTree}
use Rattle.config_state.specs.Configurations.{FrameState, TaskState, Configuration}
use Rattle.config_state.specs.OfProgram.{next_point}
use Rattle.config_state.specs.declared.task.State.{State}
use Rattle.config_state.specs.declared.task.State.TheVariants.{Ready, Running, Awaiting}
use Rattle.step_rules.specs.Events.{change_by, change_of, step_by, event_of}
use Rattle.step_rules.specs.InputViews.{class_by, class_made, exprs_by, running_point}
use Rattle.step_rules.specs.Inputs.{Input, initials_of, initials_for, initials_at, input_in, input_with, input_of_task, input_of, output_of, exprs_at, scope_of}

-- the next instruction of a frame is that of its next statement
pub instruction_found : (program : ProgramTree) (frame : FrameState) (index : ℕ) (found : Option InstructionTree)
    → frame.next ≡ Some index → found ≡ slice_get (instructions program.source) index
    → found ≡ option_map instruction_of (next_point program frame)
unfolding instructions
instruction_found program frame index found next is =
    is ∙ (slice_get-map instruction_of (program_points program.source) index
    ∙ ap (λ (at : Option ℕ). option_map instruction_of (option_and_then (slice_get (program_points program.source)) at))
    (sym next))

-- the initial values that a statement needs are those of the class that it makes
initials_by : (program : ProgramTree) (effect : EffectTree)
    → initials_for program effect ≡ initials_of (class_by program effect)
initials_by program Skips = refl
initials_by program Suspends = refl
initials_by program (Awaits names) = refl
initials_by program Chooses = refl
initials_by program Returns = refl
initials_by program Prints = refl
initials_by program (Clears target) = refl
initials_by program (Stores target) = refl
initials_by program (Makes mode class target) = refl
initials_by program (Sends method target) = refl
initials_by program (CallsOwn method target) = refl
initials_by program (CallsOther method slot target) = refl
initials_by program (Gets slot target) = refl

-- an input with these parts
same_input : (scope : Scope) (expr_trees initials : ExprTrees) (other : Input) → scope ≡ other.scope
    → expr_trees ≡ other.expr_trees → initials ≡ other.initials
    → record { scope = scope; expr_trees = expr_trees; initials = initials } ≡ other
same_input scope expr_trees initials other same_scope same_exprs same_initials =
    rw (same_scope, same_exprs, same_initials)

-- the input in a frame, for an instruction of it
abbrev input_by : ProgramTree → Configuration → FrameState → Option InstructionTree → Input
input_by program config frame instruction = record {
  scope = scope_of config frame;
  expr_trees = exprs_by instruction;
  initials = initials_of (class_made program instruction);
}

module _ (program : ProgramTree) (config : Configuration) where
  -- the input at a statement
  input_at : (frame : FrameState) (point : Option Point)
      → record { scope = scope_of config frame; expr_trees = exprs_at point; initials = initials_at program point }
      ≡ input_by program config frame (option_map instruction_of point)
  input_at frame None = refl
  input_at frame (Some point) = rw (initials_by program (effect_of point.statement))

  -- the input in the innermost frame of a task, by its state
  input_in_state : (state : State) (frame : FrameState) → input_in program config state frame
      ≡ input_by program config frame (option_map instruction_of (running_point program state frame))
  input_in_state Running frame = input_at frame (next_point program frame)
  input_in_state Ready frame = refl
  input_in_state Awaiting frame = refl

  -- a task without a frame has no input
  pub none_found : (index : ℕ) (task : TaskState) → slice_get config.tasks index ≡ Some task
      → None ≡ slice_get task.frames 0 → input_of program config index ≡ None
  unfolding input_of
  none_found index task there innermost = ap (input_of_task program config) there ∙ by task.frames innermost
    where
      by : (frames : List FrameState) → None ≡ slice_get frames 0 → input_with program config task.state frames ≡ None
      by [] innermost = refl
      by (first ∷ others) innermost = absurd cc

  -- a task that has an event has an input
  pub input_if_event : (index : ℕ) → IsSome (event_of program config index) → input_of program config index ≡ None → ⊥
  unfolding event_of change_of
  input_if_event index has none = by (input_of program config index) none has
    where
      by : (input : Option Input) → input ≡ None → IsSome (option_map (step_by config index) (option_and_then
          (λ (one : Input). change_by program config index (output_of program one)) input)) → ⊥
      by None none has = absurd cc
      by (Some input) none has = absurd cc

  module _ (index : ℕ) (task : TaskState) (frame : FrameState) (instruction : Option InstructionTree)
      (class : Option ClassEntryTree) (there : slice_get config.tasks index ≡ Some task)
      (innermost : Some frame ≡ slice_get task.frames 0)
      (is : instruction ≡ option_map instruction_of (running_point program task.state frame))
      (made : class ≡ class_made program instruction) where
    -- the input of a task that has a frame, by the instruction that the task executes there
    pub input_found : (input : Input) → input.scope ≡ scope_of config frame → input.expr_trees ≡ exprs_by instruction
        → input.initials ≡ initials_of class → input_of program config index ≡ Some input
    unfolding input_of
    input_found input scope expr_trees initials =
        ap (input_of_task program config) there ∙ by task.frames innermost
      where
        by : (frames : List FrameState) → Some frame ≡ slice_get frames 0
            → input_with program config task.state frames ≡ Some input
        by [] innermost = absurd cc
        by (first ∷ others) innermost = ap Some
            (ap (input_in program config task.state) (sym (same_Some _ _ innermost))
            ∙ (input_in_state task.state frame
            ∙ (ap (input_by program config frame) (sym is)
            ∙ sym (same_input _ _ _ (input_by program config frame instruction) scope expr_trees
            (initials ∙ ap initials_of made)))))

    -- the output of the input, by what is evaluated
    pub output_found : (input found : Input) → input.scope ≡ scope_of config frame
        → input.expr_trees ≡ exprs_by instruction → input.initials ≡ initials_of class
        → input_of program config index ≡ Some found
        → results_of (library_of program) input.scope input.expr_trees input.initials ≡ output_of program found
    unfolding output_of
    output_found input found scope expr_trees initials is_found =
        ap (output_of program) (same_Some _ _ (sym (input_found input scope expr_trees initials) ∙ is_found))
