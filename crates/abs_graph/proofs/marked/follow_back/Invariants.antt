use Rattle.abs_graph.specs.Reaching.{KeepsSound}
use Rattle.abs_graph.specs.Views.{graph_of}
use Rattle.abs_graph.proofs.marked.follow_back.Given as goal

abbrev pub invariant-loop-arrival : goal.invariant-loop-arrival
invariant-loop-arrival l = KeepsSound (graph_of l.graph) l.initial.found l.found
