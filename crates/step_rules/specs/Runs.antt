-- Runs: where a history leads, when it is legal, and how a run ends.
--
--   `Ran`, `run_of`                    the run of a history: where it leads, and what it printed
--   `IsLegal`, `IsReachable`           each event of a history exists; a legal history leads to a configuration
--   `IsDone`, `IsOpen`, `HasStep`      every task has a result; some task has none; some task has an event
--   `EndsAs`                           how a run ended
use Rattle.std.specs.Prelude.{◌≡◌, ◌≢◌, ◌≤◌, ℕ, List, [], ◌++◌, length, Option, Some, None, IsSome, fold}
use Rattle.abs_tree.specs.Syntax.{ProgramTree}
use Rattle.config_state.specs.Configurations.{Configuration, IsUnfinished}
use Rattle.config_state.specs.First.{first}
use Rattle.step_rules.specs.Events.{Step, event_of}
use Rattle.step_rules.specs.declared.kind.End.{End}
use Rattle.step_rules.specs.declared.kind.End.TheVariants.{Done, Stalled, Spent}

-- the state after some events: the configuration, and all lines that were printed
pub record Ran : Type 0 where
  pub config : Configuration
  pub lines : List (List ℕ)

-- the state with one more event, where that event exists
abbrev pub ran_with : Ran → Option Step → Option Ran
ran_with ran None = None
ran_with ran (Some step) = Some (record { config = step.config; lines = ran.lines ++ step.lines })

abbrev pub ran_after : ProgramTree → Option Ran → ℕ → Option Ran
ran_after program None task = None
ran_after program (Some ran) task = ran_with ran (event_of program ran.config task)

-- the state in which each run begins
abbrev pub start_of : ProgramTree → Ran
start_of program = record { config = first program; lines = [] }

-- the run of a history: the events of its tasks in order, from the first configuration on
unfoldable pub run_of : ProgramTree → List ℕ → Option Ran
run_of program history = fold (ran_after program) (Some (start_of program)) history

-- Each event of the history exists.
abbrev pub IsLegal : ProgramTree → List ℕ → Type 0
IsLegal program history = IsSome (run_of program history)

-- A legal history leads to the configuration.
pub record IsReachable (program : ProgramTree) (config : Configuration) : Type 0 where
  pub history : List ℕ
  pub ran : Ran
  pub leads : run_of program history ≡ Some ran
  pub config_is : ran.config ≡ config

-- Every task has a result.
abbrev pub IsDone : Configuration → Type 0
IsDone config = (index : ℕ) → IsUnfinished config index → ⊥

-- A task is unfinished.
abbrev pub IsOpen : Configuration → Type 0
IsOpen config = (index : ℕ) × IsUnfinished config index

-- Some task has an event.
abbrev pub HasStep : ProgramTree → Configuration → Type 0
HasStep program config = (index : ℕ) × IsSome (event_of program config index)

-- How a run of at most this many events ended. One that is both spent and stalled is spent.
abbrev pub EndsAs : ProgramTree → ℕ → List ℕ → Configuration → End → Type 0
EndsAs program limit history config Done = (length history ≤ limit) × IsDone config
EndsAs program limit history config Spent = (length history ≡ limit) × IsOpen config
EndsAs program limit history config Stalled =
    (length history ≤ limit) × (length history ≢ limit) × IsOpen config × (HasStep program config → ⊥)
