use Rattle.check_fun.proofs.ContextLemmas.{knows_stays}
use Rattle.check_fun.proofs.checker.Checker.variable.Goals as goal

pub returns-clause-found : goal.returns-clause-found
returns-clause-found c context knows = c.variable_type.ensures context (knows_stays c.note_if.ensures.stays knows)
