use Rattle.abs_types.proofs.HeadLemmas.{IsSpine-next}
use Rattle.abs_types.proofs.table.TypeTable.open_spine.Goals as goal

pub loop-parts-preserved : goal.loop-parts-preserved
loop-parts-preserved c = IsSpine-next c.loop-parts.invariant c.in-Some.ensures.parts c.in_ok-push.ensures.items
