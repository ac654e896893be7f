use Rattle.check_obj.proofs.HasLemmas.{HasSoFar}
use Rattle.check_obj.proofs.interfaces.has_all.Given as goal

abbrev pub invariant-loop-name : goal.invariant-loop-name
invariant-loop-name l = HasSoFar l.table l.own.types.entries l.asked.types.entries l.name-iterator
