use Rattle.future_cells.proofs.FirstLemmas.{first_of-is}
use Rattle.future_cells.proofs.task_set.TaskSet.first.Goals as goal

pub returns-clause-least : goal.returns-clause-least
returns-clause-least c = rw (c.first.ensures, ← c.self.view_is) (first_of-is _ c.self.invariant).least
