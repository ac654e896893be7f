use Rattle.std.proofs.Common.{◌≡◌, Some, take}
use Rattle.abs_program.specs.NamedViews.{program_tree}
use Rattle.config_state.specs.ConfigViews.{configuration}
use Rattle.config_state.specs.OfProgram.{IsConfigOf}
use Rattle.step_rules.specs.Runs.{run_of}
use Rattle.run_history.proofs.replays.replay.Given as goal

-- the events so far lead to the configuration and the lines, and the configuration is of the program
abbrev pub invariant-loop-index : goal.invariant-loop-index
invariant-loop-index l = record {
  leads : run_of (program_tree l.program) (take l.index l.history.tasks)
      ≡ Some (record { config = configuration l.program.symbols l.config; lines = l.lines });
  of_program : ∥ IsConfigOf (program_tree l.program) (configuration l.program.symbols l.config) ∥₁;
}
