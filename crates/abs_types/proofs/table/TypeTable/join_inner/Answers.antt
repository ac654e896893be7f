use Rattle.abs_types.proofs.KeepLemmas.{keeps_transitive}
use Rattle.abs_types.proofs.table.TypeTable.join_inner.Goals as goal

pub returns-in_err-join_next : goal.returns-in_err-join_next
returns-in_err-join_next c = record { keeps = keeps_transitive c.loop.invariant.0 c.join_next.ensures.keeps }

pub loop-preserved : goal.loop-preserved
loop-preserved c = (keeps_transitive c.loop.invariant.0 c.join_next.ensures.keeps, c.join_next.ensures.waiting)
