use Rattle.abs_graph.specs.RootEdges.{HasNoEdges}
use Rattle.abs_graph.specs.Views.{graph_of}
use Rattle.abs_graph.proofs.reach.no_edges.Given as goal

abbrev pub invariant-loop : goal.invariant-loop
invariant-loop l = HasNoEdges l.counter (graph_of l.edges.items)
