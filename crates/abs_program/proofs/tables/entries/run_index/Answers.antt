use Rattle.std.proofs.Common.{ap, sym, ◌∙◌}
use Rattle.std.specs.Bool.{then_some}
use Rattle.abs_program.proofs.ClassEntryLemmas.{run_found}
use Rattle.abs_program.proofs.tables.entries.run_index.Goals as goal

pub returns-then-is_run : goal.returns-then-is_run
returns-then-is_run c =
    c.then_some.ensures
    ∙ (ap (then_some c.can_start.result) c.in_ok-index.ensures
    ∙ run_found c.index-members-index.result c.loop-index.invariant c.loop-index-test.true c.index-members-index.is
    (sym c.if-is_run.ensures) c.can_start.ensures)
