use Rattle.check_fun.proofs.ContextLemmas.{finds_stays}
use Rattle.check_fun.proofs.checker.Checker.checked_if.Goals as goal

pub returns-clause-found : goal.returns-clause-found
returns-clause-found c context given one other knows of_condition of_first of_second =
    finds_stays c.note_untyped.ensures.stays (c.in_ok-found.ensures.found context given one other knows of_condition of_first of_second)
