use Rattle.abs_program.specs.NamedViews.{program_tree}
use Rattle.config_state.specs.ConfigViews.{configuration}
use Rattle.future_cells.specs.Following.{StandsUpTo}
use Rattle.future_cells.proofs.ready.Ready.stand_all.Given as goal

-- the tasks so far have what they are by themselves
abbrev pub invariant-loop-task : goal.invariant-loop-task
invariant-loop-task l =
    ∥ StandsUpTo (program_tree l.program) (configuration l.program.symbols l.config) l.task l.self ∥₁
