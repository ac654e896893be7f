use Rattle.std.proofs.Common.{append-nil, refl}
use Rattle.abs_types.proofs.KeepLemmas.{keeps_transitive}
use Rattle.abs_types.specs.TypeOffences.{value_frame}
use Rattle.check_fun.proofs.ContextLemmas.{finds_kept, knows_stays}
use Rattle.check_fun.specs.Contexts.{with_frame}
use Rattle.check_obj.proofs.ClassLemmas.{field_found}
use Rattle.check_obj.proofs.classes.field_member.Goals as goal

pub field-requires : goal.field-requires
field-requires c = (c.in_ok-declared-in-Field.ensures.found _ (record { is = refl })).found_is

pub returns-in_ok-push-in-Field-clause-noted : goal.returns-in_ok-push-in-Field-clause-noted
returns-in_ok-push-in-Field-clause-noted c context known knows =
    let declared = c.in_ok-declared-in-Field.ensures in
    let noted = c.in_ok-field-in-Field.ensures.noted context known _ (knows_stays declared.stays knows)
    (declared.found (with_frame context (value_frame known)) knows) in
    rw (c.in-Field.is, append-nil) (rw declared.first at noted)

pub returns-in_ok-push-in-Field-clause-knows : goal.returns-in_ok-push-in-Field-clause-knows
returns-in_ok-push-in-Field-clause-knows c context known knows =
    let declared = c.in_ok-declared-in-Field.ensures in
    rw c.in-Field.is (c.in_ok-field-in-Field.ensures.knows context known _ (knows_stays declared.stays knows)
    (declared.found (with_frame context (value_frame known)) knows))

pub returns-in_ok-push-in-Field-clause-found : goal.returns-in_ok-push-in-Field-clause-found
returns-in_ok-push-in-Field-clause-found c context known knows found =
    let declared = c.in_ok-declared-in-Field.ensures in
    let keeps = c.in_ok-field-in-Field.ensures.keeps in
    rw c.in-Field.is (field_found (keeps_transitive declared.stays.keeps keeps) found
    (finds_kept keeps (declared.found (with_frame context (value_frame known)) knows))
    c.in_ok-push-in-Field.ensures.items)

pub returns-in_ok-push-in-Field-clause-keeps : goal.returns-in_ok-push-in-Field-clause-keeps
returns-in_ok-push-in-Field-clause-keeps c =
    keeps_transitive c.in_ok-declared-in-Field.ensures.stays.keeps c.in_ok-field-in-Field.ensures.keeps
