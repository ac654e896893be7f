use Rattle.check_fun.proofs.LeafLemmas.{task_found}
use Rattle.check_fun.proofs.checker.Checker.task.Goals as goal

pub returns : goal.returns
returns c context knows = task_found knows
