use Rattle.check_fun.proofs.ContextLemmas.{finds_stays}
use Rattle.check_fun.proofs.checker.Checker.destiny.Goals as goal

pub returns-clause-found : goal.returns-clause-found
returns-clause-found c context knows =
    finds_stays c.note_untyped.ensures.stays (c.in_ok-found.ensures.found context knows)
