use Rattle.std.proofs.Common.{ap, ◌∙◌, subst}
use Rattle.future_cells.specs.TaskLists.{with_task}
use Rattle.future_cells.specs.TaskSets.{Rises}
use Rattle.future_cells.specs.TaskTrees.{tasks_of}
use Rattle.future_cells.proofs.WithLemmas.{Adds, with_task-adds}
use Rattle.future_cells.proofs.task_set.TaskSet.insert.Goals as goal
use Rattle.future_cells.proofs.task_set.TaskSet.insert.Goals.{After-with}

-- the set with the task, where the function returns
adds : (c : After-with) → Adds c.args.task c.args.self.now (tasks_of c.with.result)
adds c =
    let before = ap tasks_of c.replace-tree.ensures.value ∙ c.self.view_is in
    with_task-adds c.args.task (c.with.ensures.tasks ∙ ap (with_task c.args.task) before)
    (subst Rises c.self.view_is c.self.invariant) c.requires.is_new

pub invariant_of-self : goal.invariant_of-self
invariant_of-self c = (adds (goal.at.invariant_of-self c).After-with).rises

pub returns-clause-has : goal.returns-clause-has
returns-clause-has c = (adds (goal.at.returns-clause-has c).After-with).has

pub returns-clause-length : goal.returns-clause-length
returns-clause-length c = (adds (goal.at.returns-clause-length c).After-with).length
