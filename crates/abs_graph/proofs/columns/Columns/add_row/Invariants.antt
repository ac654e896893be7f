use Rattle.std.proofs.Common.{take}
use Rattle.abs_graph.specs.Columns.{IsExtended}
use Rattle.abs_graph.proofs.columns.Columns.add_row.Given as goal

abbrev pub invariant-loop-next : goal.invariant-loop-next
invariant-loop-next l = IsExtended l.initial.self l.self (take l.next-index l.row)
