use Rattle.std.specs.Prelude.{All}
use Rattle.abs_types.specs.TypeParts.{ArePairAmong}
use Rattle.abs_types.specs.TypeTables.{types_in, Keeps}
use Rattle.abs_types.proofs.table.TypeTable.join_inner.Given as goal

-- the table keeps what it had, and the pairs that wait are of it
abbrev pub invariant-loop : goal.invariant-loop
invariant-loop l = Keeps l.fn.self l.self × All (ArePairAmong (types_in l.self)) l.waiting.items
