use Rattle.std.proofs.Common.{length}
use Rattle.abs_graph.proofs.ComponentLemmas.{ArePlaced}
use Rattle.abs_graph.proofs.components.split.Given as goal

abbrev pub invariant-loop-node : goal.invariant-loop-node
invariant-loop-node l = ArePlaced l.places l.roots.items l.numbers.items (length l.graph) l.node
