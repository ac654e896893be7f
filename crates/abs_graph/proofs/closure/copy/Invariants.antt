use Rattle.std.proofs.Common.{◌≡◌, take}
use Rattle.abs_graph.specs.Views.{graph_of}
use Rattle.abs_graph.proofs.closure.copy.Given as goal

abbrev pub invariant-loop-row : goal.invariant-loop-row
invariant-loop-row l = graph_of l.copied.items ≡ graph_of (take l.row-index l.graph)
