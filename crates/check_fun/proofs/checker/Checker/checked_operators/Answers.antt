use Rattle.check_fun.proofs.ContextLemmas.{finds_stays}
use Rattle.check_fun.proofs.checker.Checker.checked_operators.Goals as goal

pub returns-clause-found : goal.returns-clause-found
returns-clause-found c context left types knows of_first of_rights =
    finds_stays c.note_untyped.ensures.stays (c.in_ok-found.ensures.found context left types knows of_first of_rights)
