use Rattle.std.proofs.Common.{ap, ◌∙◌, subst}
use Rattle.future_cells.specs.TaskLists.{without_task}
use Rattle.future_cells.specs.TaskSets.{Rises}
use Rattle.future_cells.specs.TaskTrees.{tasks_of}
use Rattle.future_cells.proofs.WithoutLemmas.{Drops, without_task-drops}
use Rattle.future_cells.proofs.task_set.TaskSet.remove.Goals as goal
use Rattle.future_cells.proofs.task_set.TaskSet.remove.Goals.{After-without-tree}

-- the set without the task, where the function returns
drops : (c : After-without-tree) → Drops c.args.task c.args.self.now (tasks_of c.without-tree.result.0)
drops c =
    let before = ap tasks_of c.replace.ensures.value ∙ c.self.view_is in
    without_task-drops c.args.task (c.without-tree.ensures.tasks ∙ ap (without_task c.args.task) before)
    (subst Rises c.self.view_is c.self.invariant) c.requires.is_in

pub invariant_of-self : goal.invariant_of-self
invariant_of-self c = (drops (goal.at.invariant_of-self c).After-without-tree).rises

pub returns-clause-has : goal.returns-clause-has
returns-clause-has c = (drops (goal.at.returns-clause-has c).After-without-tree).has

pub returns-clause-length : goal.returns-clause-length
returns-clause-length c = (drops (goal.at.returns-clause-length c).After-without-tree).length
