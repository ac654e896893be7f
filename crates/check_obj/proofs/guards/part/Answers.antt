use Rattle.std.proofs.lemmas.Result.{on_ok_weaker}
use Rattle.abs_tree.specs.declared.refusal.Code.TheVariants.{T1}
use Rattle.check_fun.proofs.ContextLemmas.{knows_stays, noted_after, stays_transitive}
use Rattle.check_fun.specs.Contexts.{Stays}
use Rattle.check_obj.proofs.SideLemmas.{noted_missing}
use Rattle.check_obj.proofs.guards.part.Goals as goal

pub returns-then-test-clause-noted : goal.returns-then-test-clause-noted
returns-then-test-clause-noted c context knows =
    let known = knows_stays c.in_ok-expression.ensures.stays knows in
    let value = c.in_ok-expression.ensures.noted _ knows in
    let found = c.value_in-found.ensures _ known in
    let missing = noted_missing c.value_in-found.result c.is_none.result T1 c.args.test.now.place c.is_none.ensures found
    c.note_if.ensures.noted in
    let one = rw c.deref.ensures at value in
    let two = rw c.deref-then-test.ensures at missing in rw c.if-test.true (noted_after _ _ one two)

pub returns-then-test-clause-stays : goal.returns-then-test-clause-stays
returns-then-test-clause-stays c = stays_transitive c.in_ok-expression.ensures.stays c.note_if.ensures.stays

pub asked-requires : goal.asked-requires
asked-requires c = c.in_ok-bool.ensures.found.found_is

pub returns-clause-noted : goal.returns-clause-noted
returns-clause-noted c context knows =
    let known = knows_stays c.in_ok-bool.ensures.stays knows in
    let asked = c.asked.ensures.noted _ _ known c.in_ok-bool.ensures.found in
    rw c.if-test.false (rw (c.bool.ensures.first, c.deref-2.ensures) at asked)

pub returns-clause-stays : goal.returns-clause-stays
returns-clause-stays c =
    on_ok_weaker c.asked.result
    (λ (stays : Stays c.bool.new.self c.asked.new.self). stays_transitive c.in_ok-bool.ensures.stays stays)
    c.asked.ensures.stays
