use Rattle.std.proofs.Common.{refl}
use Rattle.std.proofs.lemmas.List.{get_or_default}
use Rattle.circularity_test.proofs.MarkLemmas.{spreads_all, spreads_more, spreads_none}
use Rattle.circularity_test.proofs.distances.Distances.spread.Goals as goal

pub loop-node-init : goal.loop-node-init
loop-node-init c = spreads_none _ c.args.distance c.args.self.now.marks.entries refl

pub loop-node-preserved : goal.loop-node-preserved
loop-node-preserved c =
    spreads_more c.args.nodes.now c.loop-node.node-index _ c.args.distance _ _ _ c.loop-node-test.true
    (get_or_default _ _ _ _ c.loop-node-test.true) c.loop-node.invariant c.in_ok-mark.ensures

pub returns : goal.returns
returns c =
    spreads_all c.args.nodes.now c.loop-node.node-index c.args.distance _ _ c.loop-node-test.false
    c.loop-node.invariant
