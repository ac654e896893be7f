-- The tasks of a tree, by those of its sides.
use Rattle.std.proofs.Common.{◌≡◌, Box}
use Rattle.std.specs.declared.alloc.Global.{Global}
use Rattle.future_cells.specs.declared.task_set.Branch.{Branch}
use Rattle.future_cells.specs.declared.task_set.Tree.{Tree}
use Rattle.future_cells.specs.declared.task_set.Tree.TheVariants.{Fork}
use Rattle.future_cells.specs.TaskTrees.{tasks_of}
use Rattle.future_cells.proofs.RisingLemmas.{ForksInto}

-- The tasks of a fork are those of its lower side, its own, and those of its upper side.
pub tasks_of-fork : {tree : Tree} {root : Box Branch Global} {branch : Branch} → tree ≡ Fork root → branch ≡ root.value
    → ForksInto (tasks_of tree) (tasks_of branch.below) branch.task (tasks_of branch.above)
tasks_of-fork {tree} {root} {branch} is same = record { is = rw (is, same) }
