use Rattle.std.proofs.Common.{length, refl}
use Rattle.std.proofs.lemmas.Result.{on_ok_weaker, IfOk-weaker}
use Rattle.abs_tree.specs.Names.{name_of}
use Rattle.abs_tree.specs.declared.refusal.Code.TheVariants.{T2}
use Rattle.check_fun.proofs.ContextLemmas.{finds_all_stays, finds_stays, found_all_stays, found_stays, knows_stays, stays_transitive}
use Rattle.check_fun.specs.Contexts.{Stays}
use Rattle.check_obj.proofs.SideLemmas.{found_count, found_there, noted_missing, own_noted}
use Rattle.check_obj.proofs.right_sides.own_call.Goals as goal
use Rattle.abs_tree.proofs.FormLemmas.{exprs_counted}

pub call-requires-clause-receiver : goal.call-requires-clause-receiver
call-requires-clause-receiver c =
    found_stays c.note_if.ensures.stays (c.in_ok-receiver.ensures.found _ (record { is = refl })).found_is

pub call-requires-clause-given : goal.call-requires-clause-given
call-requires-clause-given c =
    found_all_stays c.note_if.ensures.stays
    (found_all_stays c.in_ok-receiver.ensures.stays (c.in_ok-given.ensures.found _ (record { is = refl })).found_are)

pub call-requires-clause-count : goal.call-requires-clause-count
call-requires-clause-count c =
    found_count _ c.args.arguments.now (c.in_ok-given.ensures.found _ (record { is = refl }))

pub returns-clause-found : goal.returns-clause-found
returns-clause-found c context knows =
    let one = knows_stays c.in_ok-given.ensures.stays knows in
    let two = knows_stays c.note_if.ensures.stays (knows_stays c.in_ok-receiver.ensures.stays one) in
    c.call.ensures.found _ _ _ two (finds_stays c.note_if.ensures.stays (c.in_ok-receiver.ensures.found _ one))
    (finds_all_stays c.note_if.ensures.stays
    (finds_all_stays c.in_ok-receiver.ensures.stays (c.in_ok-given.ensures.found _ knows)))

pub returns-clause-noted : goal.returns-clause-noted
returns-clause-noted c context knows =
    let one = knows_stays c.in_ok-given.ensures.stays knows in
    let two = knows_stays c.note_if.ensures.stays (knows_stays c.in_ok-receiver.ensures.stays one) in
    let receiver = c.in_ok-receiver.ensures.found _ one in
    let called = c.call.ensures.noted _ _ _ two (finds_stays c.note_if.ensures.stays receiver)
    (finds_all_stays c.note_if.ensures.stays
    (finds_all_stays c.in_ok-receiver.ensures.stays (c.in_ok-given.ensures.found _ knows))) in
    let missing = noted_missing c.in_ok-receiver.receiver c.is_none.result T2 c.args.place c.is_none.ensures receiver
    c.note_if.ensures.noted in
    rw (exprs_counted context.names c.args.arguments.now)
    (on_ok_weaker c.call.result
    (λ noted. own_noted context.declarations context.frame.this (name_of context.names c.args.method)
    (length c.args.arguments.now) _ c.args.place _ (c.in_ok-given.ensures.noted _ knows)
    (rw c.this_class.ensures.first at missing) noted)
    called)

pub returns-clause-stays : goal.returns-clause-stays
returns-clause-stays c =
    on_ok_weaker c.call.result
    (λ (stays : Stays c.note_if.new.self c.call.new.checker).
    stays_transitive c.in_ok-given.ensures.stays (stays_transitive c.in_ok-receiver.ensures.stays
    (stays_transitive c.note_if.ensures.stays stays)))
    c.call.ensures.stays

pub returns-clause-there : goal.returns-clause-there
returns-clause-there c =
    IfOk-weaker c.call.result _ _ found_there
    (c.call.ensures.found _ _ _ (record { is = refl })
    (finds_stays c.note_if.ensures.stays (c.in_ok-receiver.ensures.found _ (record { is = refl })))
    (finds_all_stays c.note_if.ensures.stays
    (finds_all_stays c.in_ok-receiver.ensures.stays (c.in_ok-given.ensures.found _ (record { is = refl })))))
