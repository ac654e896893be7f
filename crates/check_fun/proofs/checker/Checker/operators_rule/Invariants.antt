use Rattle.check_fun.proofs.OperatedSoFarLemmas.{OperatedSoFar}
use Rattle.check_fun.proofs.checker.Checker.operators_rule.Given as goal

abbrev pub invariant-loop-index : goal.invariant-loop-index
invariant-loop-index l = OperatedSoFar l.fn.self l.self l.initial.left l.operands l.rights l.left l.index
