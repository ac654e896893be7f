use Rattle.std.proofs.Common.{refl}
use Rattle.std.proofs.lemmas.Result.{on_ok_weaker, IfOk-weaker}
use Rattle.check_fun.proofs.ContextLemmas.{finds_stays, found_stays, knows_stays, noted_after, stays_transitive}
use Rattle.check_fun.specs.Contexts.{Stays}
use Rattle.check_obj.proofs.SideLemmas.{found_count, found_there}
use Rattle.check_obj.proofs.right_sides.call_by_operands.Goals as goal
use Rattle.abs_tree.proofs.FormLemmas.{exprs_counted}

pub call-requires-clause-receiver : goal.call-requires-clause-receiver
call-requires-clause-receiver c =
    found_stays c.in_ok-given.ensures.stays (c.in_ok-object.ensures.found _ (record { is = refl })).found_is

pub call-requires-clause-given : goal.call-requires-clause-given
call-requires-clause-given c = (c.in_ok-given.ensures.found _ (record { is = refl })).found_are

pub call-requires-clause-count : goal.call-requires-clause-count
call-requires-clause-count c =
    found_count _ c.in-Some.arguments.now (c.in_ok-given.ensures.found _ (record { is = refl }))

pub returns-clause-found : goal.returns-clause-found
returns-clause-found c context knows =
    let one = knows_stays c.in_ok-object.ensures.stays knows in
    let called = c.call.ensures.found _ _ _ (knows_stays c.in_ok-given.ensures.stays one)
    (finds_stays c.in_ok-given.ensures.stays (c.in_ok-object.ensures.found _ knows))
    (c.in_ok-given.ensures.found _ one) in
    rw c.in-Some.ensures.cases.0 called

pub returns-clause-noted : goal.returns-clause-noted
returns-clause-noted c context knows =
    let one = knows_stays c.in_ok-object.ensures.stays knows in
    let called = c.call.ensures.noted _ _ _ (knows_stays c.in_ok-given.ensures.stays one)
    (finds_stays c.in_ok-given.ensures.stays (c.in_ok-object.ensures.found _ knows))
    (c.in_ok-given.ensures.found _ one) in
    rw (c.in-Some.ensures.cases.0, exprs_counted context.names c.in-Some.arguments.now)
    (on_ok_weaker c.call.result
    (λ noted. noted_after _ _
    (noted_after _ _ (c.in_ok-object.ensures.noted _ knows) (c.in_ok-given.ensures.noted _ one)) noted)
    called)

pub returns-clause-stays : goal.returns-clause-stays
returns-clause-stays c =
    on_ok_weaker c.call.result
    (λ (stays : Stays c.arguments.new.self c.call.new.checker).
    stays_transitive c.in_ok-object.ensures.stays (stays_transitive c.in_ok-given.ensures.stays stays))
    c.call.ensures.stays

pub returns-clause-there : goal.returns-clause-there
returns-clause-there c =
    IfOk-weaker c.call.result _ _ found_there
    (c.call.ensures.found _ _ _ (record { is = refl })
    (finds_stays c.in_ok-given.ensures.stays (c.in_ok-object.ensures.found _ (record { is = refl })))
    (c.in_ok-given.ensures.found _ (record { is = refl })))
