-- The first configuration of a program.
--
--   `frame_for`            a frame at the start of a body
--   `first`                the first configuration
use Rattle.std.specs.Prelude.{ℕ, ◌-◌, List, [], ◌∷◌, ◌++◌, replicate, Option, None}
use Rattle.abs_tree.specs.Syntax.{Name, ProgramTree}
use Rattle.abs_values.specs.ValueTrees.{ValueTree, NullValue}
use Rattle.abs_program.specs.declared.tables.control.BodyEntry.{BodyEntry}
use Rattle.abs_program.specs.ProgramBodies.{entry_of_body}
use Rattle.config_state.specs.Bodies.{main_at}
use Rattle.config_state.specs.Configurations.{FrameState, Configuration}
use Rattle.config_state.specs.declared.frame.Target.{Target}
use Rattle.config_state.specs.declared.frame.Target.TheVariants.{Nothing}
use Rattle.config_state.specs.declared.task.State.TheVariants.{Ready}

-- a frame at the start of a body: its first slots have the values of the arguments, and all others null
abbrev pub frame_for : BodyEntry → Option Name → Option ℕ → List ValueTree → Target → FrameState
frame_for body method object arguments target = record {
  method = method;
  object = object;
  slots = arguments ++ replicate (body.slots - body.params) NullValue;
  next = body.first;
  target = target;
}

-- the first configuration: the task of the main block is ready in cog 0, which nobody holds
abbrev pub first : ProgramTree → Configuration
first program = record {
  cogs = record { parent = None; place = 0; holder = None } ∷ [];
  objects = [];
  tasks = record {
    cog = 0;
    object = None;
    method = None;
    call = None;
    frames = frame_for (entry_of_body (main_at program)) None None [] Nothing ∷ [];
    state = Ready;
    outcome = None;
  } ∷ [];
}
