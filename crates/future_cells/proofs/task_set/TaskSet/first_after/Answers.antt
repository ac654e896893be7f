use Rattle.future_cells.proofs.FirstLemmas.{first_above-is}
use Rattle.future_cells.proofs.task_set.TaskSet.first_after.Goals as goal

pub returns-clause-some : goal.returns-clause-some
returns-clause-some c = rw (c.first_after.ensures.first, ← c.self.view_is) (first_above-is c.args.from _ c.self.invariant).some

pub returns-clause-none : goal.returns-clause-none
returns-clause-none c = rw (c.first_after.ensures.first, ← c.self.view_is) (first_above-is c.args.from _ c.self.invariant).none
