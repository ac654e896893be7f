use Rattle.std.proofs.Common.{length, sym, ap, ◌∙◌, arith}
use Rattle.abs_tree.specs.Names.{name_of}
use Rattle.check_fun.proofs.ContextLemmas.{finds_all_stays, finds_stays, found_all_stays, knows_stays, stays_transitive}
use Rattle.check_fun.specs.Contexts.{items_of}
use Rattle.check_obj.proofs.CalledLemmas.{call_found, call_noted, call_unoffending, given_count, has_reported, methods_known, taking_known}
use Rattle.check_obj.proofs.right_sides.call.Goals as goal

pub returns-in_default-given-clause-noted : goal.returns-in_default-given-clause-noted
returns-in_default-given-clause-noted c context object types knows of_object of_types =
    call_unoffending context.declarations (name_of context.names c.args.method) c.args.count c.args.place
    c.in-Some.receiver c.is_empty.result (rw c.in-Some.is at of_object) (rw c.in_default-given.is at of_types)
    (λ type finds. has_reported c.is_empty.result c.in_ok-methods.methods.len
    (methods_known c.head_at.result c.args.method c.args.count knows (c.head_at.ensures context type knows finds)
    c.in_ok-methods.ensures) (omega (arith, c.in_ok-methods.methods.ok.0)) c.is_empty.ensures)
    c.note_if.ensures.noted

pub first_taking-requires : goal.first_taking-requires
first_taking-requires c =
    rw c.as_slice.ensures.value (found_all_stays c.note_if.ensures.stays (rw c.in-Some-given.is at c.requires.given))

pub returns-clause-found : goal.returns-clause-found
returns-clause-found c context object types knows of_object of_types =
    let given = rw c.in-Some-given.is at of_types in
    let stays = c.note_if.ensures.stays in
    call_found context.declarations (name_of context.names c.args.method) c.in-Some.receiver
    c.as_slice.result.now (rw c.in-Some.is at of_object) (rw c.as_slice.ensures.value given)
    (λ type known finds finds_all.
    let methods = methods_known c.head_at.result c.args.method c.args.count knows
    (c.head_at.ensures context type knows finds) c.in_ok-methods.ensures in
    let counted = c.requires.count c.in-Some-given.given.items (ap items_of c.in-Some-given.is)
    ∙ (ap length (sym c.as_slice.ensures.value) ∙ given_count finds_all) in
    let taken = c.in_ok-found.ensures.found context known (knows_stays stays knows) (finds_all_stays stays finds_all) in
    rw (← taking_known known methods counted)
    (finds_stays c.note_untyped.ensures.stays (rw c.as_slice-2.ensures.value at taken)))

pub returns-clause-noted : goal.returns-clause-noted
returns-clause-noted c context object types knows of_object of_types =
    let given = rw c.in-Some-given.is at of_types in
    let stays = c.note_if.ensures.stays in
    call_noted context.declarations (name_of context.names c.args.method) c.args.count c.args.place
    c.in-Some.receiver c.as_slice.result.now c.is_empty.result (rw c.in-Some.is at of_object)
    (rw c.as_slice.ensures.value given)
    (λ type finds. has_reported c.is_empty.result c.in_ok-methods.methods.len
    (methods_known c.head_at.result c.args.method c.args.count knows (c.head_at.ensures context type knows finds)
    c.in_ok-methods.ensures) (omega (arith, c.in_ok-methods.methods.ok.0)) c.is_empty.ensures)
    c.note_if.ensures.noted
    (λ type known finds finds_all.
    let methods = methods_known c.head_at.result c.args.method c.args.count knows
    (c.head_at.ensures context type knows finds) c.in_ok-methods.ensures in
    let counted = c.requires.count c.in-Some-given.given.items (ap items_of c.in-Some-given.is)
    ∙ (ap length (sym c.as_slice.ensures.value) ∙ given_count finds_all) in
    let taken = c.in_ok-found.ensures.found context known (knows_stays stays knows) (finds_all_stays stays finds_all) in
    let noted = c.note_untyped.ensures.noted _ (rw c.as_slice-2.ensures.value at taken) in
    rw (← taking_known known methods counted)
    (rw (c.first_taking.ensures.first, c.is_empty-2.ensures, ← c.is_empty.ensures) at noted))

pub returns-clause-stays : goal.returns-clause-stays
returns-clause-stays c =
    stays_transitive c.note_if.ensures.stays
    (stays_transitive c.in_ok-found.ensures.stays c.note_untyped.ensures.stays)
