use Rattle.abs_graph.specs.Reaching.{KeepsSound}
use Rattle.abs_graph.specs.Views.{graph_of}
use Rattle.abs_graph.proofs.marked.follow_all.Given as goal

abbrev pub invariant-loop : goal.invariant-loop
invariant-loop l = KeepsSound (graph_of l.graph) l.initial.found l.found
