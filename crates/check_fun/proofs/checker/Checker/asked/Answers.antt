use Rattle.std.proofs.Common.{refl}
use Rattle.check_fun.proofs.ContextLemmas.{finds_stays, found_stays, knows_stays, noted_after, stays_transitive}
use Rattle.check_fun.proofs.checker.Checker.asked.Goals as goal

pub note_unfit-requires-clause-found : goal.note_unfit-requires-clause-found
note_unfit-requires-clause-found c = (c.in_ok-given.ensures.found _ (record { is = refl })).found_is

pub note_unfit-requires-clause-asked : goal.note_unfit-requires-clause-asked
note_unfit-requires-clause-asked c = found_stays c.in_ok-given.ensures.stays c.requires

pub returns-clause-noted : goal.returns-clause-noted
returns-clause-noted c context type knows wants =
    noted_after _ _ (c.in_ok-given.ensures.noted context knows)
    (c.note_unfit.ensures.noted context _ _ (knows_stays c.in_ok-given.ensures.stays knows)
    (c.in_ok-given.ensures.found context knows) (finds_stays c.in_ok-given.ensures.stays wants))

pub returns-clause-stays : goal.returns-clause-stays
returns-clause-stays c = stays_transitive c.in_ok-given.ensures.stays c.note_unfit.ensures.stays
