use Rattle.abs_graph.specs.Reaching.{IsClosed}
use Rattle.abs_graph.specs.Views.{graph_of}
use Rattle.abs_graph.proofs.marked.is_closed.Given as goal

abbrev pub invariant-loop-node : goal.invariant-loop-node
invariant-loop-node l = IsClosed (graph_of l.graph) l.marked l.found l.node
