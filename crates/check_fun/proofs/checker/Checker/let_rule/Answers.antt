use Rattle.check_fun.proofs.RuleLemmas.{let_found}
use Rattle.check_fun.proofs.checker.Checker.let_rule.Goals as goal

pub returns-then-fits : goal.returns-then-fits
returns-then-fits c context given gives type knows first second third =
    rw c.if-fits.true at (let_found c.fits.ensures knows (rw c.in-Some.is at first) second third)

pub returns-else-fits : goal.returns-else-fits
returns-else-fits c context given gives type knows first second third =
    rw c.if-fits.false at (let_found c.fits.ensures knows (rw c.in-Some.is at first) second third)
