use Rattle.check_fun.proofs.GrowingLemmas.{noted_unfit}
use Rattle.check_fun.proofs.checker.Checker.note_unfit.Goals as goal

pub returns-in-Some-clause-noted : goal.returns-in-Some-clause-noted
returns-in-Some-clause-noted c context given wanted knows finds wants =
    noted_unfit c.in-Some.found c.args.asked c.args.place (rw c.fits-fits.ensures at c.note_if.ensures.noted) context
    given wanted knows (rw c.in-Some.is at finds) wants
