use Rattle.abs_graph.proofs.ReachingLemmas.{marks_more}
use Rattle.abs_graph.proofs.marked.marks.Goals as goal

pub loop-node-preserved : goal.loop-node-preserved
loop-node-preserved c =
    marks_more c.args.marked.now c.loop-node.found.items c.push.new.self.items c.loop-node.node c.is_marked.result
    c.in_ok-push.ensures.items c.loop-node.invariant c.is_marked.ensures
