use Rattle.std.proofs.Common.{sym}
use Rattle.check_fun.proofs.FoundLemmas.{finds_none}
use Rattle.check_fun.proofs.RuleLemmas.{fit_found}
use Rattle.check_fun.proofs.checker.Checker.fitting.Goals as goal

pub returns-then-fits : goal.returns-then-fits
returns-then-fits c context given wanted knows first second =
    rw (sym (fit_found c.fits.ensures knows first second), c.if-fits.true) second

pub returns-else-fits : goal.returns-else-fits
returns-else-fits c context given wanted knows first second =
    rw (sym (fit_found c.fits.ensures knows first second), c.if-fits.false) finds_none
