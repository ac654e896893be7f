use Rattle.abs_graph.specs.Views.{graph_of}
use Rattle.abs_graph.proofs.RootEdgeLemmas.{AreRootEdgesBelow}
use Rattle.abs_graph.proofs.reach.add_rows.Given as goal

abbrev pub invariant-loop-node : goal.invariant-loop-node
invariant-loop-node l =
    AreRootEdgesBelow (graph_of l.components.graph.items) l.components.roots.items (graph_of l.edges) l.node
