use Rattle.check_fun.proofs.ContextLemmas.{found_stays, knows_stays}
use Rattle.check_fun.proofs.FoundLemmas.{finds_none, finds_own}
use Rattle.check_fun.proofs.RuleLemmas.{if_found}
use Rattle.check_fun.proofs.checker.Checker.if_rule.Goals as goal

pub fits-requires-clause-one : goal.fits-requires-clause-one
fits-requires-clause-one c = (found_stays c.bool.ensures.stays (rw c.in-Some.is at c.requires.condition)).among

pub returns-then-not-fits-clause-found : goal.returns-then-not-fits-clause-found
returns-then-not-fits-clause-found c context given one other knows of_condition of_first of_second =
    rw (
      if_found c.bool.ensures.stays c.in-Some.is c.in-Some-first.is c.in-Some-second.is c.fits.ensures
          c.in_ok-asked.ensures.found knows of_condition of_first of_second,
      c.if-not-fits.true,
    ) finds_none

pub returns-clause-found : goal.returns-clause-found
returns-clause-found c context given one other knows of_condition of_first of_second =
    rw (
      if_found c.bool.ensures.stays c.in-Some.is c.in-Some-first.is c.in-Some-second.is c.fits.ensures
          c.in_ok-asked.ensures.found knows of_condition of_first of_second,
      c.if-not-fits.false,
    )
    (c.join.ensures.found context _ _ (knows_stays c.bool.ensures.stays knows)
    (finds_own (found_stays c.bool.ensures.stays (rw c.in-Some-first.is at c.requires.first)))
    (finds_own (found_stays c.bool.ensures.stays (rw c.in-Some-second.is at c.requires.second))))
