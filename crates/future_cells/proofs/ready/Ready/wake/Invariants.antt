use Rattle.std.proofs.Common.{◌≤◌}
use Rattle.abs_program.specs.NamedViews.{program_tree}
use Rattle.config_state.specs.ConfigViews.{configuration}
use Rattle.future_cells.specs.Following.{AgreesBut, waiting_count}
use Rattle.future_cells.proofs.ready.Ready.wake.Given as goal

-- only tasks that waited for the one that has ended do not agree
abbrev pub invariant-loop-waiter : goal.invariant-loop-waiter
invariant-loop-waiter l = record {
  agrees : ∥ AgreesBut (program_tree l.program) (configuration l.program.symbols l.config) l.ended l.self ∥₁;
  spare : l.initial.self.spare ≤ l.self.spare;
}

abbrev pub decreases-loop-waiter : goal.decreases-loop-waiter
decreases-loop-waiter l = waiting_count l.ended l.self.posts
