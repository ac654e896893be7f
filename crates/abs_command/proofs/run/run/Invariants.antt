use Rattle.std.proofs.Common.{◌≡◌, ◌≤◌, ◌+◌, ◌-◌, length, Some}
use Rattle.abs_program.specs.NamedViews.{program_tree}
use Rattle.config_state.specs.ConfigViews.{configuration}
use Rattle.config_state.specs.OfProgram.{IsConfigOf}
use Rattle.future_cells.specs.Standings.{StandsFor}
use Rattle.run_history.specs.Turns.{last_of, IsInTurn}
use Rattle.step_rules.specs.Runs.{run_of}
use Rattle.abs_command.proofs.run.run.Given as goal

-- The history so far is legal and in turn. Configuration and lines are those of its run, the configuration is of the
-- program, and the ready set is that of the configuration. The last task is that of the last event, and there is room for
-- the events that are left.
abbrev pub invariant-loop-alloc : goal.invariant-loop-alloc
invariant-loop-alloc l = record {
  legal : run_of (program_tree l.program) l.history.tasks
      ≡ Some (record { config = configuration l.program.symbols l.config; lines = l.lines });
  in_turn : IsInTurn (program_tree l.program) l.history.tasks;
  of_program : ∥ IsConfigOf (program_tree l.program) (configuration l.program.symbols l.config) ∥₁;
  stands : ∥ StandsFor (program_tree l.program) (configuration l.program.symbols l.config) l.ready ∥₁;
  last_is : l.last ≡ last_of l.history.tasks;
  few : length l.history.tasks ≤ l.limit;
  room : l.limit ≤ length l.history.tasks + l.history.spare;
}

abbrev pub decreases-loop-alloc : goal.decreases-loop-alloc
decreases-loop-alloc l = l.limit - length l.history.tasks
