use Rattle.std.proofs.Common.{◌≡◌, [], length, replicate}
use Rattle.abs_graph.specs.Views.{graph_of}
use Rattle.circularity_test.proofs.ComponentLemmas.{RowsSoFar}
use Rattle.circularity_test.proofs.components.rows_of.Given as goal

-- there are as many empty rows as turns were made
abbrev pub invariant-loop : goal.invariant-loop
invariant-loop l = graph_of l.rows.items ≡ replicate l.counter []

-- the rows have the edges so far
abbrev pub invariant-loop-edge : goal.invariant-loop-edge
invariant-loop-edge l =
    RowsSoFar l.parts.edges.items (length l.parts.parts.keys) l.edge-index (graph_of l.rows.items)
