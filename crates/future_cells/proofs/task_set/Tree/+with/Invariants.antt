use Rattle.std.proofs.Common.{length}
use Rattle.future_cells.specs.TaskTrees.{tasks_of}
use Rattle.future_cells.proofs.task_set.Tree.+with.Given as goal

abbrev pub decreases-with : goal.decreases-with
decreases-with l = length (tasks_of l.self)
