use Rattle.check_fun.proofs.ContextLemmas.{finds_stays}
use Rattle.check_fun.proofs.checker.Checker.checked_let.Goals as goal

pub returns-clause-found : goal.returns-clause-found
returns-clause-found c context given gives type knows of_value of_declared of_body =
    finds_stays c.note_untyped.ensures.stays
    (c.let_rule-found.ensures context given gives type knows of_value of_declared of_body)
