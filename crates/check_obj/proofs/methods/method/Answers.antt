use Rattle.std.proofs.Common.{ap, length, refl, List, ◌∙◌}
use Rattle.abs_tree.specs.Syntax.{Name}
use Rattle.abs_types.proofs.KeepLemmas.{keeps_transitive}
use Rattle.abs_types.specs.PlainTypes.{PlainType}
use Rattle.check_fun.proofs.ContextLemmas.{finds_kept, found_kept, found_stays, knows_stays}
use Rattle.check_fun.specs.Contexts.{Context, Knows}
use Rattle.check_obj.specs.Classes.{IsInClass}
use Rattle.check_obj.proofs.BodyLemmas.{gives_found, in_method, keeps_entered, knows_in_method, method_noted, params_fit, still_in_class}
use Rattle.check_obj.proofs.methods.method.Goals as goal

pub body_slots-requires : goal.body_slots-requires
body_slots-requires c =
    params_fit c.requires (ap length c.as_slice.ensures.value) (c.len.ensures ∙ c.args.body.now.slots.ok.0)

pub enter_method-requires-clause-task : goal.enter_method-requires-clause-task
enter_method-requires-clause-task c =
    found_stays c.in_ok-slots.ensures.stays (c.in_ok-gives.ensures.found _ (record { is = refl })).found_is

pub ends_well-requires : goal.ends_well-requires
ends_well-requires c =
    found_kept (keeps_entered c.in_ok-slots.ensures.stays c.enter_method.ensures.table c.in_ok-statements.ensures.stays)
    (c.in_ok-gives.ensures.found _ (record { is = refl })).found_is

-- the method was entered
entered : (c : goal.After-note_if) (context : Context) (class : Name) (fields : List PlainType)
    → IsInClass c.args.checker.now context class fields
    → Knows c.enter_method.new.self (in_method context class fields c.args.signature.now c.args.body.now)
entered c =
    knows_in_method c.in_ok-slots.slots.items c.args.signature.now c.args.body.now c.requires
    (c.len.ensures ∙ c.args.body.now.slots.ok.0) c.as_slice.ensures.value c.in_ok-gives.ensures.stays
    c.in_ok-slots.ensures.stays c.in_ok-gives.ensures.found c.in_ok-slots.ensures.found c.enter_method.ensures.knows

pub returns-clause-noted : goal.returns-clause-noted
returns-clause-noted c context class fields inside =
    let signature = c.args.signature.now in
    let body = c.args.body.now in
    let keeps = keeps_entered c.in_ok-slots.ensures.stays c.enter_method.ensures.table
    c.in_ok-statements.ensures.stays in
    method_noted context class fields signature body
    (c.enter_method.ensures.first ∙ (c.in_ok-slots.ensures.first ∙ c.in_ok-gives.ensures.first))
    c.as_slice-2.ensures.value (c.in_ok-statements.ensures.noted (in_method context class fields signature body)
    (entered c context class fields inside)) c.in_ok-ends_well.ensures.first c.as_slice-3.ensures.value
    (c.in_ok-ends_well.ensures.reported context.names _
    (finds_kept keeps (gives_found signature.result c.in_ok-gives.ensures.found inside)))
    c.note_if.ensures.noted

pub returns-clause-stays : goal.returns-clause-stays
returns-clause-stays c context class fields inside =
    still_in_class c.args.signature.now c.args.body.now (knows_stays c.note_if.ensures.stays
    (knows_stays c.in_ok-ends_well.ensures.stays (knows_stays c.in_ok-statements.ensures.stays
    (entered c context class fields inside))))

pub returns-clause-keeps : goal.returns-clause-keeps
returns-clause-keeps c =
    keeps_transitive c.in_ok-gives.ensures.stays.keeps (keeps_transitive
    (keeps_entered c.in_ok-slots.ensures.stays c.enter_method.ensures.table c.in_ok-statements.ensures.stays)
    (keeps_transitive c.in_ok-ends_well.ensures.stays.keeps c.note_if.ensures.stays.keeps))
