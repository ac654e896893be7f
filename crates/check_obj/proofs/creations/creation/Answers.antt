use Rattle.std.proofs.Common.{refl}
use Rattle.abs_tree.specs.Names.{name_of}
use Rattle.abs_types.specs.SideTypes.{new_type}
use Rattle.check_fun.proofs.ContextLemmas.{finds_stays, knows_stays, stays_transitive}
use Rattle.check_obj.proofs.CreationLemmas.{given_found, given_noted, given_unoffending, none_given}
use Rattle.check_obj.proofs.creations.creation.Goals as goal
use Rattle.check_fun.proofs.FoundLemmas.{finds_all_own}

pub returns-in_default-clause-found : goal.returns-in_default-clause-found
returns-in_default-clause-found c context knows =
    none_given _ (rw c.in_default.is at c.in_ok-given.ensures.found _ knows)

pub returns-in_default-clause-noted : goal.returns-in_default-clause-noted
returns-in_default-clause-noted c context knows =
    given_unoffending _ _ c.args.place (rw c.in_default.is at c.in_ok-given.ensures.found _ knows)
    (c.in_ok-given.ensures.noted _ knows)

pub new_object-requires : goal.new_object-requires
new_object-requires c =
    let found = c.in_ok-given.ensures.found _ (record { is = refl }) in
    rw c.as_slice.ensures.value (rw c.in-Some.is at found.found_are)

pub returns-clause-found : goal.returns-clause-found
returns-clause-found c context knows =
    let given = c.in_ok-given.ensures.found _ knows in
    given_found (new_type context.declarations (name_of context.names c.args.class)) c.as_slice.result.now
    (rw c.as_slice.ensures.value (rw c.in-Some.is at given))
    (λ known finds. finds_stays c.note_untyped.ensures.stays
    (c.in_ok-found.ensures.found _ known (knows_stays c.in_ok-given.ensures.stays knows) finds))

pub returns-clause-noted : goal.returns-clause-noted
returns-clause-noted c context knows =
    let given = c.in_ok-given.ensures.found _ knows in
    given_noted _ (new_type context.declarations (name_of context.names c.args.class)) c.as_slice.result.now
    c.args.place (rw c.as_slice.ensures.value (rw c.in-Some.is at given))
    (c.in_ok-given.ensures.noted _ knows)
    (λ known finds.
    let found = c.in_ok-found.ensures.found _ known (knows_stays c.in_ok-given.ensures.stays knows) finds in
    let noted = c.note_untyped.ensures.noted _ found in rw c.new_object.ensures.first at noted)

pub returns-clause-stays : goal.returns-clause-stays
returns-clause-stays c =
    stays_transitive c.in_ok-given.ensures.stays
    (stays_transitive c.in_ok-found.ensures.stays c.note_untyped.ensures.stays)

pub returns-clause-there : goal.returns-clause-there
returns-clause-there c =
    let found = c.in_ok-given.ensures.found _ (record { is = refl }) in
    let given = finds_all_own (rw c.as_slice.ensures.value (rw c.in-Some.is at found.found_are)) in
    (finds_stays c.note_untyped.ensures.stays
    (c.in_ok-found.ensures.found _ _ (record { is = refl }) given)).found_is
