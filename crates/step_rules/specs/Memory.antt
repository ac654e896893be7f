-- Which events may take memory beside that of evaluation.
--
--   `takes_memory`             whether a statement with this effect may take memory, or the end of a body
--   `MayTakeMemory`            the event of a task may take memory
use Rattle.std.specs.Prelude.{◌≡◌, ◌≢◌, ℕ, Bool, true, false, slice_get, Option, Some, None}
use Rattle.std.specs.Option.{option_map}
use Rattle.abs_program.specs.Control.{Point}
use Rattle.abs_program.specs.Instructions.{EffectTree, Returns, Prints, Makes, Sends, CallsOwn, Gets, effect_of}
use Rattle.abs_values.specs.Results.{Fails}
use Rattle.abs_tree.specs.Syntax.{ProgramTree}
use Rattle.abs_values.specs.declared.evaluated.Fault.{Fault}
use Rattle.config_state.specs.Configurations.{FrameState, TaskState, Configuration}
use Rattle.config_state.specs.OfProgram.{next_point}
use Rattle.config_state.specs.declared.task.State.TheVariants.{Running}
use Rattle.step_rules.specs.Changes.{Change}

-- whether a statement with this effect may take memory; the end of a body, which has none, may
abbrev pub takes_memory : Option EffectTree → Bool
takes_memory None = true
takes_memory (Some Returns) = true
takes_memory (Some Prints) = true
takes_memory (Some (Makes mode class target)) = true
takes_memory (Some (Sends method target)) = true
takes_memory (Some (CallsOwn method target)) = true
takes_memory (Some (Gets slot target)) = true
takes_memory (Some effect) = false

-- The event of the task with an index, which makes this change, may take memory. The task runs, the event is no fault,
-- and the next statement returns, prints, makes an object, calls a method or gets a future; or none is left. So none
-- of take, skip, assign, `if`, `while`, `await`, `suspend` and fault takes memory.
pub record MayTakeMemory (program : ProgramTree) (config : Configuration) (index : ℕ) (found : Option Change) : Type 0
  where
    pub task : TaskState
    pub there : slice_get config.tasks index ≡ Some task
    pub runs : task.state ≡ Running
    pub frame : FrameState
    pub innermost : slice_get task.frames 0 ≡ Some frame
    pub takes : takes_memory (option_map (λ (point : Point). effect_of point.statement) (next_point program frame))
        ≡ true
    pub no_fault : (change : Change) → found ≡ Some change → (cause : Fault) → change.task.outcome ≢ Some (Fails cause)
