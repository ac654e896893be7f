use Rattle.std.proofs.Common.{◌≡◌, None}
use Rattle.future_cells.specs.TaskLists.{first_above}
use Rattle.future_cells.specs.TaskSets.{Rises}
use Rattle.future_cells.specs.TaskTrees.{tasks_of}
use Rattle.future_cells.proofs.task_set.Tree.first_after.Given as goal

abbrev pub invariant-loop-tree : goal.invariant-loop-tree
invariant-loop-tree l = record {
  rises : Rises (tasks_of l.tree);
  same : first_above l.from l.found (tasks_of l.tree) ≡ first_above l.from None (tasks_of l.self);
}
