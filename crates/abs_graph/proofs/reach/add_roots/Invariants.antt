use Rattle.std.proofs.Common.{take}
use Rattle.abs_graph.specs.RootEdges.{AreRootsAdded}
use Rattle.abs_graph.specs.Views.{graph_of}
use Rattle.abs_graph.proofs.reach.add_roots.Given as goal

abbrev pub invariant-loop-next : goal.invariant-loop-next
invariant-loop-next l =
    AreRootsAdded l.components.roots.items l.from (take l.next-index l.row) (graph_of l.initial.edges)
    (graph_of l.edges)
