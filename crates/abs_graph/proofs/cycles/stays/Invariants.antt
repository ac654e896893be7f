use Rattle.std.proofs.Common.{◌≡◌, map}
use Rattle.std.specs.List.{range_with_len}
use Rattle.abs_graph.specs.Graphs.{reaches}
use Rattle.abs_graph.specs.Views.{graph_of}
use Rattle.abs_graph.proofs.cycles.stays.Given as goal

abbrev pub invariant-loop-node : goal.invariant-loop-node
invariant-loop-node l =
    l.found.items ≡ map (λ n. reaches (graph_of l.graph) n n) (range_with_len 0 l.node)
