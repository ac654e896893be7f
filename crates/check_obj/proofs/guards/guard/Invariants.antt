use Rattle.check_obj.proofs.GuardLemmas.{GuardSoFar}
use Rattle.check_obj.proofs.guards.guard.Given as goal

abbrev pub invariant-loop-test : goal.invariant-loop-test
invariant-loop-test l = GuardSoFar l.fn.checker l.checker l.tests l.test-index
