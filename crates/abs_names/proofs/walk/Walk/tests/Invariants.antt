use Rattle.abs_names.proofs.RowLemmas.{TestsSoFar}
use Rattle.abs_names.proofs.walk.Walk.tests.Given as goal

abbrev pub invariant-loop-test : goal.invariant-loop-test
invariant-loop-test l =
    TestsSoFar l.fn.self.scope l.fn.self.first l.tests l.test-index l.found.items l.self.scope l.self.first
