use Rattle.std.proofs.Common.{refl}
use Rattle.check_fun.proofs.ContextLemmas.{knows_stays}
use Rattle.check_fun.proofs.JoinedSoFarLemmas.{JoinedSoFar-first, JoinedSoFar-next, next_found, joined_found, joined_failed}
use Rattle.check_fun.proofs.FoundLemmas.{finds_own}
use Rattle.check_fun.specs.Contexts.{context_in}
use Rattle.check_fun.proofs.checker.Checker.join_all.Goals as goal

pub loop-other-init : goal.loop-other-init
loop-other-init c = JoinedSoFar-first c.in-Some.ensures.cases.0 c.requires

pub join-requires-clause-other : goal.join-requires-clause-other
join-requires-clause-other c = next_found (record { 0 = 0 }) c.loop-other.invariant c.loop-other-test.true

pub returns-in_default-2-clause-found : goal.returns-in_default-2-clause-found
returns-in_default-2-clause-found c context plain_types knows all =
    let so = c.loop-other.invariant in
    joined_failed (record { 0 = 0 }) so c.in-Some.ensures.cases.0 c.loop-other-test.true knows all
    (rw c.in_default-2.is at (c.in_ok-joined.ensures.found context _ _ (knows_stays so.stays knows)
    (finds_own so.found_is) (finds_own (next_found (record { 0 = 0 }) so c.loop-other-test.true))))

pub loop-other-preserved : goal.loop-other-preserved
loop-other-preserved c =
    let so = c.loop-other.invariant in
    JoinedSoFar-next (record { 0 = 0 }) so c.loop-other-test.true c.join.ensures.first c.join.ensures.stays
    (rw c.in-Some-2.is at (c.in_ok-joined.ensures.found (context_in c.loop-other.self) _ _ (record { is = refl })
    (finds_own so.found_is) (finds_own (next_found (record { 0 = 0 }) so c.loop-other-test.true))))

pub returns-clause-found : goal.returns-clause-found
returns-clause-found c context plain_types knows all =
    joined_found c.loop-other.invariant c.in-Some.ensures.cases.0 c.loop-other-test.false knows all
