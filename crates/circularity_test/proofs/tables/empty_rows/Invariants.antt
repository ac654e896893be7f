use Rattle.std.proofs.Common.{◌≡◌, [], replicate}
use Rattle.abs_graph.specs.Views.{graph_of}
use Rattle.circularity_test.proofs.tables.empty_rows.Given as goal

-- there are as many empty rows as turns were made
abbrev pub invariant-loop : goal.invariant-loop
invariant-loop l = graph_of l.rows.items ≡ replicate l.counter []
