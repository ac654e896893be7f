use Rattle.std.proofs.Common.{◌≡◌, None}
use Rattle.future_cells.specs.TaskLists.{first_of}
use Rattle.future_cells.specs.TaskTrees.{tasks_of}
use Rattle.future_cells.proofs.task_set.Tree.first.Given as goal

abbrev pub invariant-loop-tree : goal.invariant-loop-tree
invariant-loop-tree l = first_of l.found (tasks_of l.tree) ≡ first_of None (tasks_of l.self)
