use Rattle.abs_types.proofs.TermTableLemmas.{AppliedSoFar}
use Rattle.abs_types.proofs.table.TypeTable.+terms.Given as goal

abbrev pub invariant-of_data-loop-term : goal.invariant-of_data-loop-term
invariant-of_data-loop-term l = AppliedSoFar l.fn.self l.self l.fn.name l.arguments l.term-index l.found
