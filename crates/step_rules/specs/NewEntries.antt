-- What `new` and calls make: tasks, and cogs.
--
--   `task_for`                 a new task of a method
--   `cog_for`, `home_of`       the cog that `new` makes, and the cog of the new object
--   `run_task`                 the task of the method `run` of a new object
use Rattle.std.specs.Prelude.{ℕ, List, [], ◌∷◌, codes, length, Option, Some, None}
use Rattle.std.specs.Option.{option_map}
use Rattle.abs_tree.specs.Syntax.{Name, ProgramTree}
use Rattle.abs_values.specs.ValueTrees.{ValueTree}
use Rattle.abs_tree.specs.declared.syntax.statement.Mode.{Mode}
use Rattle.abs_tree.specs.declared.syntax.statement.Mode.TheVariants as mode
use Rattle.abs_program.specs.ProgramBodies.{BodyAt, entry_of_body}
use Rattle.config_state.specs.Bodies.{method_at}
use Rattle.config_state.specs.Configurations.{TaskState, Configuration}
use Rattle.config_state.specs.First.{frame_for}
use Rattle.config_state.specs.declared.cog.Cog.{Cog}
use Rattle.config_state.specs.declared.frame.Target.TheVariants.{Nothing}
use Rattle.config_state.specs.declared.task.State.TheVariants.{Ready}

-- a new task: it is ready, and executes one body, whose first slots are the arguments
abbrev pub task_for : BodyAt → ℕ → ℕ → Name → Option ℕ → List ValueTree → TaskState
task_for body cog object method call arguments = record {
  cog = cog;
  object = Some object;
  method = Some method;
  call = call;
  frames = frame_for (entry_of_body body) (Some method) (Some object) arguments Nothing ∷ [];
  state = Ready;
  outcome = None;
}

-- the cog that `new` makes, if it makes one, and the cog in which the new object is
abbrev pub cog_for : Mode → ℕ → ℕ → Option Cog
cog_for mode.Cog parent place = Some (record { parent = Some parent; place = place; holder = None })
cog_for mode.Plain parent place = None
cog_for (mode.Local at) parent place = None

abbrev pub home_of : Mode → Configuration → ℕ → ℕ
home_of mode.Cog config cog = length config.cogs
home_of mode.Plain config cog = cog
home_of (mode.Local at) config cog = cog

-- the task of the method `run` of a new object, if its class is active; nobody calls it
abbrev pub run_task : ProgramTree → ℕ → ℕ → Name → Option ℕ → Option TaskState
run_task program cog object class None = None
run_task program cog object class (Some member) =
    option_map (λ body. task_for body cog object (codes "run") None []) (method_at program class (codes "run"))
