use Rattle.abs_types.proofs.AllMetLemmas.{AllMetSoFar}
use Rattle.abs_types.proofs.table.TypeTable.meet_all.Given as goal

abbrev pub invariant-loop-index : goal.invariant-loop-index
invariant-loop-index l = AllMetSoFar l.fn.self l.self l.takes l.given l.fn.met.items l.met.items l.index
