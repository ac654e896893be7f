use Rattle.check_fun.proofs.ContextLemmas.{finds_stays, found_stays, knows_stays, noted_after, stays_transitive}
use Rattle.check_obj.proofs.right_sides.fitting_side.Goals as goal

pub note_unfit-requires-clause-asked : goal.note_unfit-requires-clause-asked
note_unfit-requires-clause-asked c = found_stays c.in_ok-found.ensures.stays c.requires

pub returns-clause-noted : goal.returns-clause-noted
returns-clause-noted c context type knows wants =
    let stays = c.in_ok-found.ensures.stays in
    let unfit = c.note_unfit.ensures.noted _ _ _ (knows_stays stays knows) (c.in_ok-found.ensures.found context knows)
    (finds_stays stays wants) in
    noted_after _ _ (c.in_ok-found.ensures.noted context knows) (rw (c.unfit_place.ensures context.names) at unfit)

pub returns-clause-stays : goal.returns-clause-stays
returns-clause-stays c = stays_transitive c.in_ok-found.ensures.stays c.note_unfit.ensures.stays
