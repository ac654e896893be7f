use Rattle.abs_graph.specs.Views.{graph_of}
use Rattle.abs_graph.proofs.ReachingLemmas.{closed_none, closed_more}
use Rattle.abs_graph.proofs.marked.is_closed.Goals as goal

pub loop-node-init : goal.loop-node-init
loop-node-init c = closed_none (graph_of c.args.graph.now) c.args.marked.now c.args.found.now

pub loop-node-preserved : goal.loop-node-preserved
loop-node-preserved c =
    closed_more c.args.graph.now c.args.marked.now c.args.found.now c.loop-node.node c.index-graph-node.result
    c.as_slice.result.now c.loop-node.invariant c.loop-node-test.true c.index-graph-node.is c.as_slice.ensures.value
    c.if-not-is_closed_at.ensures
