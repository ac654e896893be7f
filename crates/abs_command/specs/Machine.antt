-- What the analysis and the machine return for a program. The contracts of the steps of the command cite it, and no
-- clause of `abs_run` does.
--
--   `IsAnalysis`               what the analysis returns for the program of a source
--   `IsRun`                    what the machine returns for a run
use Rattle.std.specs.Prelude.{◌≡◌, ◌≤◌, ℕ, List, length, Some}
use Rattle.abs_tree.specs.Syntax.{Name, ProgramTree}
use Rattle.config_state.specs.ConfigViews.{configuration}
use Rattle.abs_command.specs.Analysis.{AreFindings, HasTooMany}
use Rattle.abs_command.specs.Ways.{IsAccepted}
use Rattle.abs_command.specs.declared.analysis.Analysis.{Analysis}
use Rattle.abs_command.specs.declared.run.Ran as machine
use Rattle.run_history.specs.Turns.{IsInTurn}
use Rattle.step_rules.specs.Runs.{run_of, EndsAs}

-- The source is accepted, and this is what the analysis finds of its program at this depth, of which no more facts are
-- derived than the limit.
pub record IsAnalysis (bytes : List ℕ) (program : ProgramTree) (depth limit : ℕ) (analysis : Analysis) : Type 0 where
  pub accepted : IsAccepted bytes program
  pub few : HasTooMany program depth limit → ⊥
  pub findings : AreFindings program depth analysis.facts analysis.pairs analysis.report

-- The history is legal and in turn, and has at most this many events. Configuration, lines and end are those of its
-- run.
pub record IsRun (names : List Name) (program : ProgramTree) (limit : ℕ) (ran : machine.Ran) : Type 0 where
  pub legal : run_of program ran.history.tasks
      ≡ Some (record { config = configuration names ran.config; lines = ran.lines })
  pub in_turn : IsInTurn program ran.history.tasks
  pub few : length ran.history.tasks ≤ limit
  pub ends : EndsAs program limit ran.history.tasks (configuration names ran.config) ran.end
