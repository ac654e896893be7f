use Rattle.std.proofs.Common.{◌∙◌}
use Rattle.abs_graph.proofs.CertificateLemmas.{stays_more}
use Rattle.abs_graph.proofs.cycles.stays.Goals as goal

pub loop-node-preserved : goal.loop-node-preserved
loop-node-preserved c =
    c.in_ok-push.ensures.items
    ∙ stays_more c.args.graph.now c.args.places.now c.loop-node.node c.index-graph-node.result c.place_at.result
    c.as_slice.result.now c.has_root.result c.loop-node.found.items c.requires.nodes c.requires.rises c.requires.ways
    c.loop-node-test.true c.index-graph-node.is c.place_at.ensures c.as_slice.ensures.value c.has_root.ensures
    c.loop-node.invariant
