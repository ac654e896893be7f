use Rattle.std.proofs.Common.{◌≡◌, length}
use Rattle.abs_graph.specs.Columns.{HasColumns}
use Rattle.abs_graph.specs.Views.{graph_of}
use Rattle.abs_graph.proofs.columns.Columns.new.Given as goal

abbrev pub invariant-loop-row : goal.invariant-loop-row
invariant-loop-row l =
    HasColumns l.columns (graph_of l.graph) l.row-index × (length l.columns.columns.items ≡ length l.graph)
