use Rattle.std.proofs.Common.{refl, sym, ◌∙◌, true, false}
use Rattle.abs_types.specs.Arguments.{all_fit}
use Rattle.abs_types.specs.PlainTypes.{PlainClass}
use Rattle.abs_tree.specs.Names.{name_of}
use Rattle.check_fun.proofs.ContextLemmas.{finds_all_stays, found_all_stays, knows_stays, stays_transitive}
use Rattle.check_fun.proofs.FoundLemmas.{finds_none}
use Rattle.check_obj.proofs.CreationLemmas.{object_found}
use Rattle.check_obj.proofs.creations.new_object.Goals as goal

pub all_fit-requires-clause-given : goal.all_fit-requires-clause-given
all_fit-requires-clause-given c = found_all_stays c.in_ok-takes.ensures.stays c.requires

pub all_fit-requires-clause-takes : goal.all_fit-requires-clause-takes
all_fit-requires-clause-takes c =
    let found = c.in_ok-takes.ensures.found _ (record { is = refl }) in
    rw c.as_slice.ensures.value (rw c.in-Some.is at found.found_are)

pub returns-then-not-all_fit-clause-found : goal.returns-then-not-all_fit-clause-found
returns-then-not-all_fit-clause-found c context types knows given =
    let stays = c.in_ok-takes.ensures.stays in
    let takes = c.in_ok-takes.ensures.found context knows in
    object_found (all_fit context.declarations types) (PlainClass (name_of context.names c.args.class))
    c.as_slice.result.now false
    (rw c.as_slice.ensures.value (rw c.in-Some.is at takes))
    (λ known finds. sym c.if-not-all_fit.true
    ∙ c.all_fit.ensures context types known (knows_stays stays knows) (finds_all_stays stays given) finds)
    finds_none

pub returns-clause-found : goal.returns-clause-found
returns-clause-found c context types knows given =
    let stays = c.in_ok-takes.ensures.stays in
    let takes = c.in_ok-takes.ensures.found context knows in
    object_found (all_fit context.declarations types) (PlainClass (name_of context.names c.args.class))
    c.as_slice.result.now true
    (rw c.as_slice.ensures.value (rw c.in-Some.is at takes))
    (λ known finds. sym c.if-not-all_fit.false
    ∙ c.all_fit.ensures context types known (knows_stays stays knows) (finds_all_stays stays given) finds)
    (c.in_ok-class.ensures.found context (knows_stays stays knows))

pub returns-clause-stays : goal.returns-clause-stays
returns-clause-stays c = stays_transitive c.in_ok-takes.ensures.stays c.class.ensures.stays
