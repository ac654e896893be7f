use Rattle.check_fun.proofs.ContextLemmas.{knows_stays}
use Rattle.check_obj.proofs.ResultLemmas.{passed_stays}
use Rattle.check_obj.specs.Bodies.{unbound}
use Rattle.check_obj.proofs.statements.printed.Goals as goal

pub returns-clause-noted : goal.returns-clause-noted
returns-clause-noted c context knows =
    let noted = c.asked.ensures.noted (unbound context) _ (knows_stays c.in_ok-string.ensures.stays knows)
    c.in_ok-string.ensures.found in
    rw c.string.ensures.first at noted

pub returns-clause-stays : goal.returns-clause-stays
returns-clause-stays c = passed_stays c.asked.result c.asked.new.self c.in_ok-string.ensures.stays c.asked.ensures.stays
