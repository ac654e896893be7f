use Rattle.std.proofs.Common.{sym}
use Rattle.check_fun.proofs.FoundLemmas.{finds_none}
use Rattle.check_fun.proofs.RuleLemmas.{fit_found}
use Rattle.check_fun.proofs.checker.Checker.both_rule.Goals as goal

pub returns-then-not-fits : goal.returns-then-not-fits
returns-then-not-fits c context wanted given one other knows of_asked of_given of_left of_right =
    rw (sym (fit_found c.fits.ensures knows of_left of_asked), c.if-not-fits.true) finds_none

pub returns-then-fits : goal.returns-then-fits
returns-then-fits c context wanted given one other knows of_asked of_given of_left of_right =
    rw (
      sym (fit_found c.fits.ensures knows of_left of_asked),
      sym (fit_found c.fits-2.ensures knows of_right of_asked),
      c.if-not-fits.false,
      c.if-fits.true,
    ) of_given

pub returns-else-fits : goal.returns-else-fits
returns-else-fits c context wanted given one other knows of_asked of_given of_left of_right =
    rw (
      sym (fit_found c.fits.ensures knows of_left of_asked),
      sym (fit_found c.fits-2.ensures knows of_right of_asked),
      c.if-not-fits.false,
      c.if-fits.false,
    ) finds_none
