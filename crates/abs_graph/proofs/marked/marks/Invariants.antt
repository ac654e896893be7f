use Rattle.std.proofs.Common.{◌≡◌, map}
use Rattle.std.specs.List.{range_with_len}
use Rattle.abs_graph.specs.Graphs.{is_marked}
use Rattle.abs_graph.proofs.marked.marks.Given as goal

abbrev pub invariant-loop-node : goal.invariant-loop-node
invariant-loop-node l = l.found.items ≡ map (is_marked l.marked) (range_with_len 0 l.node)
