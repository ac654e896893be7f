use Rattle.check_fun.proofs.JoinedSoFarLemmas.{JoinedSoFar}
use Rattle.check_fun.proofs.checker.Checker.join_all.Given as goal

abbrev pub invariant-loop-other : goal.invariant-loop-other
invariant-loop-other l = JoinedSoFar l.fn.self l.self l.initial.found l.others l.found l.other-index
