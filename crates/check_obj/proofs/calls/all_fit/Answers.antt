use Rattle.check_obj.proofs.TakingLemmas.{fit_begins, fit_ends, fit_fails, fit_known, fit_next, unlike_fail}
use Rattle.check_obj.proofs.calls.all_fit.Goals as goal

pub returns-then-given-takes : goal.returns-then-given-takes
returns-then-given-takes c context types others knows first second =
    fit_known (unlike_fail c.args.checker.now c.args.given.now c.args.takes.now c.if-given-takes.true) knows first
    second

pub loop-index-init : goal.loop-index-init
loop-index-init c = fit_begins

pub returns-then-not-fits : goal.returns-then-not-fits
returns-then-not-fits c context types others knows first second =
    fit_known (fit_fails (record { 0 = 0 }) (record { 0 = 0 }) c.loop-index.invariant c.loop-index-test.true
    c.if-given-takes.false c.fits.ensures c.if-not-fits.true) knows first second

pub loop-index-preserved : goal.loop-index-preserved
loop-index-preserved c =
    fit_next (record { 0 = 0 }) (record { 0 = 0 }) c.loop-index.invariant c.loop-index-test.true
    c.if-given-takes.false c.fits.ensures c.if-not-fits.false

pub returns : goal.returns
returns c context types others knows first second =
    fit_known (fit_ends c.loop-index.invariant c.loop-index-test.false c.if-given-takes.false) knows first second
