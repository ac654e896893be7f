use Rattle.std.proofs.Common.{◌≡◌, length}
use Rattle.abs_graph.specs.Tables.{HasNoRoom}
use Rattle.abs_graph.proofs.closure.no_rows.Given as goal

abbrev pub invariant-loop : goal.invariant-loop
invariant-loop l = (length l.rows.items ≡ l.counter) × HasNoRoom l.rows.items
