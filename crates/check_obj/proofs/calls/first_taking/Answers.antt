use Rattle.std.proofs.Common.{refl}
use Rattle.check_fun.proofs.ContextLemmas.{found_all_stays, knows_stays, stays_transitive}
use Rattle.check_fun.specs.Contexts.{context_in}
use Rattle.check_obj.proofs.TakingLemmas.{taking_found, taking_next}
use Rattle.check_obj.proofs.calls.first_taking.Goals as goal

pub all_fit-requires-clause-given : goal.all_fit-requires-clause-given
all_fit-requires-clause-given c =
    found_all_stays (stays_transitive c.loop-method.invariant.stays c.in_ok-takes.ensures.stays) c.requires

pub all_fit-requires-clause-takes : goal.all_fit-requires-clause-takes
all_fit-requires-clause-takes c =
    rw c.as_slice-in-loop-method.ensures.value
    (c.in_ok-takes.ensures.found (context_in c.loop-method.checker) (record { is = refl })).found_are

pub returns-then-all_fit-clause-found : goal.returns-then-all_fit-clause-found
returns-then-all_fit-clause-found c context types knows finds =
    let takes = simp c.as_slice.ensures.value at c.in_ok-takes.ensures.found in
    let tells = simp c.as_slice-in-loop-method.ensures.value at c.all_fit.ensures in
    let from = c.loop-method.invariant in
    rw (← taking_found c.method-item.result from c.loop-method-test.true c.method-item.is c.in_ok-takes.ensures.stays
    takes tells c.if-all_fit.true knows finds)
    (c.in_ok-written.ensures.found context
    (knows_stays (stays_transitive from.stays c.in_ok-takes.ensures.stays) knows))

pub returns-then-all_fit-clause-stays : goal.returns-then-all_fit-clause-stays
returns-then-all_fit-clause-stays c =
    stays_transitive c.loop-method.invariant.stays
    (stays_transitive c.in_ok-takes.ensures.stays c.in_ok-written.ensures.stays)

pub loop-method-preserved : goal.loop-method-preserved
loop-method-preserved c =
    let takes = simp c.as_slice.ensures.value at c.in_ok-takes.ensures.found in
    let tells = simp c.as_slice-in-loop-method.ensures.value at c.all_fit.ensures in
    taking_next c.method-item.result c.loop-method.invariant c.loop-method-test.true c.method-item.is
    c.in_ok-takes.ensures.first c.in_ok-takes.ensures.stays takes tells c.if-all_fit.false
