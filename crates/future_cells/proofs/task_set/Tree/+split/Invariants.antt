use Rattle.std.proofs.Common.{length}
use Rattle.future_cells.specs.TaskTrees.{tasks_of}
use Rattle.future_cells.proofs.task_set.Tree.+split.Given as goal

abbrev pub decreases-split : goal.decreases-split
decreases-split l = length (tasks_of l.self)
