use Rattle.std.proofs.Common.{◌∙◌, arith}
use Rattle.future_cells.proofs.RisingLemmas.{shorter, narrowed_below, narrowed_above}
use Rattle.future_cells.proofs.TreeLemmas.{tasks_of-fork}
use Rattle.future_cells.proofs.WithoutLemmas.{without_task-below, without_task-above, without_task-root}
use Rattle.future_cells.proofs.task_set.Tree.+without.Goals as goal

pub without-below-requires : goal.without-below-requires
without-below-requires t c =
    let forks = tasks_of-fork c.in-Fork.is c.deref_mut-branch.ensures.value in
    let step = narrowed_below forks c.requires.rises c.args.task c.if-task-branch.true in
    let less = (shorter forks).0 in
    rw c.replace.ensures.value (omega arith, (step.0, step.1 ∙ c.requires.is_in))

pub without-above-requires : goal.without-above-requires
without-above-requires t c =
    let forks = tasks_of-fork c.in-Fork.is c.deref_mut-branch.ensures.value in
    let step = narrowed_above forks c.requires.rises c.args.task c.if-branch-task.true in
    let less = (shorter forks).1 in
    rw c.replace-then-branch-task.ensures.value (omega arith, (step.0, step.1 ∙ c.requires.is_in))

pub returns-then-task-branch : goal.returns-then-task-branch
returns-then-task-branch t c =
    let forks = tasks_of-fork c.in-Fork.is c.deref_mut-branch.ensures.value in
    let step = narrowed_below forks c.requires.rises c.args.task c.if-task-branch.true in
    record { tasks = rw (c.without-below.ensures.tasks, c.replace.ensures.value) (without_task-below forks c.args.task (step.1 ∙ c.requires.is_in)) }

pub returns-then-branch-task : goal.returns-then-branch-task
returns-then-branch-task t c =
    let forks = tasks_of-fork c.in-Fork.is c.deref_mut-branch.ensures.value in
    record { tasks = rw (c.without-above.ensures.tasks, c.replace-then-branch-task.ensures.value) (without_task-above forks c.requires.rises c.args.task c.if-branch-task.true) }

pub returns-else-branch-task : goal.returns-else-branch-task
returns-else-branch-task t c =
    let forks = tasks_of-fork c.in-Fork.is c.deref_mut-branch.ensures.value in
    record { tasks = rw (c.joined.ensures, c.replace-below.ensures.value, c.replace-above.ensures.value) (without_task-root forks c.requires.rises c.args.task (omega arith)) }
