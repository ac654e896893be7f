use Rattle.abs_types.proofs.HeadLemmas.{AreMetSpines-next}
use Rattle.abs_types.proofs.table.TypeTable.met_spine.Goals as goal

pub loop-parts-preserved : goal.loop-parts-preserved
loop-parts-preserved c = AreMetSpines-next c.loop-parts.invariant c.in-Some.ensures c.in_ok-push.ensures.items
