use Rattle.std.proofs.Common.{◌≤◌, ◌+◌}
use Rattle.abs_program.specs.NamedViews.{program_tree}
use Rattle.config_state.specs.ConfigViews.{configuration}
use Rattle.config_state.specs.OfProgram.{IsConfigOf}
use Rattle.future_cells.specs.Standings.{StandsFor}
use Rattle.show_run.proofs.schedules.schedule_line.Given as goal

-- The configuration is of the program, and the ready set is that of the configuration. There is room in the history for
-- the events that are left.
abbrev pub invariant-loop : goal.invariant-loop
invariant-loop l = record {
  of_program : ∥ IsConfigOf (program_tree l.program) (configuration l.program.symbols l.config) ∥₁;
  stands : ∥ StandsFor (program_tree l.program) (configuration l.program.symbols l.config) l.ready ∥₁;
  room : l.limit ≤ l.counter + l.history.spare;
}
