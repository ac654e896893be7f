use Rattle.std.proofs.Common.{ℕ, ◌<◌}
use Rattle.abs_graph.specs.Certificates.{HasToward, HasFrom}
use Rattle.abs_graph.specs.Views.{graph_of}
use Rattle.abs_graph.proofs.cycles.has_ways.Given as goal

abbrev pub invariant-loop-node : goal.invariant-loop-node
invariant-loop-node l =
    (k : ℕ) → k < l.node → HasToward (graph_of l.graph) l.places k × HasFrom (graph_of l.graph) l.places k
