use Rattle.check_fun.proofs.LeafLemmas.{class_found, no_class}
use Rattle.check_fun.proofs.checker.Checker.this_class.Goals as goal

pub returns-in_ok-class-in-Some-clause-found : goal.returns-in_ok-class-in-Some-clause-found
returns-in_ok-class-in-Some-clause-found c context knows =
    class_found c.in-Some.is knows (c.in_ok-class-in-Some.ensures.found context knows)

pub returns-in-None-clause-found : goal.returns-in-None-clause-found
returns-in-None-clause-found c context knows = no_class c.in-None.is knows
