use Rattle.check_obj.proofs.GuardLemmas.{guard_begins, guard_ends, guard_next}
use Rattle.check_obj.proofs.guards.guard.Goals as goal

pub loop-test-init : goal.loop-test-init
loop-test-init c = guard_begins

pub loop-test-preserved : goal.loop-test-preserved
loop-test-preserved c =
    guard_next c.test-item.result c.loop-test.invariant c.loop-test-test.true c.test-item.is
    c.in_ok-part.ensures.noted c.in_ok-part.ensures.stays

pub returns-clause-noted : goal.returns-clause-noted
returns-clause-noted c = guard_ends c.loop-test.invariant c.loop-test-test.false

pub returns-clause-stays : goal.returns-clause-stays
returns-clause-stays c = c.loop-test.invariant.stays
