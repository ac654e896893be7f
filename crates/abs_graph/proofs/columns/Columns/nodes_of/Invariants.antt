use Rattle.std.proofs.Common.{ℕ, ◌≡◌, ◌&&◌, take}
use Rattle.abs_graph.specs.Graphs.{is_listed}
use Rattle.abs_graph.specs.Columns.{column_of, has_column}
use Rattle.abs_graph.proofs.columns.Columns.nodes_of.Given as goal

abbrev pub invariant-loop-column : goal.invariant-loop-column
invariant-loop-column l = (node : ℕ) → is_listed l.found.items node
    ≡ (has_column l.self node && is_listed (take l.column-index l.column-items) (column_of l.self node))
