use Rattle.abs_graph.specs.Tables.{IsFilled}
use Rattle.abs_graph.specs.Views.{graph_of}
use Rattle.abs_graph.proofs.closure.fill_in_order.Given as goal

abbrev pub invariant-loop-node : goal.invariant-loop-node
invariant-loop-node l = IsFilled (graph_of l.graph) l.columns l.rows l.filled
