use Rattle.check_fun.proofs.ContextLemmas.{finds_stays}
use Rattle.check_fun.proofs.checker.Checker.checked_case.Goals as goal

pub returns-clause-found : goal.returns-clause-found
returns-clause-found c context type types knows of_subject of_branches =
    finds_stays c.note_untyped.ensures.stays (c.in_ok-found.ensures.found context type types knows of_subject of_branches)
