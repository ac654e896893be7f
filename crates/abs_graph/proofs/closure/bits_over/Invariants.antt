use Rattle.std.proofs.Common.{take}
use Rattle.abs_graph.specs.Columns.{count_of}
use Rattle.abs_graph.specs.Tables.{IsUnion, IsWide}
use Rattle.abs_graph.proofs.closure.bits_over.Given as goal

abbrev pub invariant-loop-next : goal.invariant-loop-next
invariant-loop-next l = IsUnion l.columns l.rows l.filled (take l.next-index l.nodes) l.bits × IsWide (count_of l.columns) l.bits
