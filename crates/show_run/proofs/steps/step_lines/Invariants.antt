use Rattle.abs_program.specs.NamedViews.{program_tree}
use Rattle.config_state.specs.ConfigViews.{configuration}
use Rattle.config_state.specs.OfProgram.{IsConfigOf}
use Rattle.future_cells.specs.Standings.{StandsFor}
use Rattle.show_run.proofs.steps.step_lines.Given as goal

-- The configuration is of the program, and the ready set is that of the configuration.
abbrev pub invariant-loop-event : goal.invariant-loop-event
invariant-loop-event l = record {
  of_program : ∥ IsConfigOf (program_tree l.program) (configuration l.program.symbols l.config) ∥₁;
  stands : ∥ StandsFor (program_tree l.program) (configuration l.program.symbols l.config) l.ready ∥₁;
}
