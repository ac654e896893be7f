use Rattle.abs_graph.proofs.CertificateLemmas.{rises_more}
use Rattle.abs_graph.proofs.cycles.rows_rise.Goals as goal

pub loop-node-preserved : goal.loop-node-preserved
loop-node-preserved c =
    rises_more c.index-graph-node.result c.place_at.result c.as_slice.result.now c.loop-node.invariant
    c.loop-node-test.true c.index-graph-node.is c.place_at.ensures c.as_slice.ensures.value c.if-not-row_rises.ensures
