use Rattle.check_fun.proofs.LeafLemmas.{future_found, no_future}
use Rattle.check_fun.proofs.checker.Checker.task_future.Goals as goal

pub returns-in_ok-future-in-Some-clause-found : goal.returns-in_ok-future-in-Some-clause-found
returns-in_ok-future-in-Some-clause-found c context knows =
    future_found c.in-Some.is knows c.in_ok-future-in-Some.ensures.found

pub returns-in-None-clause-found : goal.returns-in-None-clause-found
returns-in-None-clause-found c context knows = no_future c.in-None.is knows
