use Rattle.std.proofs.Common.{length}
use Rattle.future_cells.specs.TaskTrees.{tasks_of}
use Rattle.future_cells.proofs.task_set.Tree.+without.Given as goal

abbrev pub decreases-without : goal.decreases-without
decreases-without l = length (tasks_of l.self)
