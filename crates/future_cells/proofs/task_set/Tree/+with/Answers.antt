use Rattle.std.proofs.Common.{◌∙◌, arith}
use Rattle.future_cells.proofs.RisingLemmas.{shorter, narrowed_below, narrowed_above, above-root}
use Rattle.future_cells.proofs.TreeLemmas.{tasks_of-fork}
use Rattle.future_cells.proofs.WithLemmas.{with_task-between, with_task-below, with_task-above}
use Rattle.future_cells.proofs.task_set.Tree.+with.Goals as goal

pub with-requires : goal.with-requires
with-requires t c =
    let forks = tasks_of-fork c.in-Fork.is c.deref_mut-branch.ensures.value in
    let step = narrowed_below forks c.requires.rises c.args.task c.if-task-branch.true in
    let less = (shorter forks).0 in
    rw c.replace-below.ensures.value (omega arith, (step.0, step.1 ∙ c.requires.is_new))

pub with-requires-else-task-branch : goal.with-requires-else-task-branch
with-requires-else-task-branch t c =
    let forks = tasks_of-fork c.in-Fork.is c.deref_mut-branch.ensures.value in
    let is_above = above-root forks c.args.task c.requires.is_new c.if-task-branch.false in
    let step = narrowed_above forks c.requires.rises c.args.task is_above in
    let less = (shorter forks).1 in
    rw c.replace-above.ensures.value (omega arith, (step.0, step.1 ∙ c.requires.is_new))

pub returns-then-outranks : goal.returns-then-outranks
returns-then-outranks t c =
    let forks = tasks_of-fork c.in-Fork.is c.deref_mut-branch.ensures.value in
    let split = c.split-below.ensures in
    record { tasks = c.forked-then-outranks.ensures ∙ with_task-between c.args.task _ _ (forks.is ∙ split.same) split.below split.above }

pub returns-then-task-branch : goal.returns-then-task-branch
returns-then-task-branch t c =
    let forks = tasks_of-fork c.in-Fork.is c.deref_mut-branch.ensures.value in
    record { tasks = rw (c.with.ensures.tasks, c.replace-below.ensures.value) (with_task-below forks c.args.task c.if-task-branch.true) }

pub returns-else-task-branch : goal.returns-else-task-branch
returns-else-task-branch t c =
    let forks = tasks_of-fork c.in-Fork.is c.deref_mut-branch.ensures.value in
    let is_above = above-root forks c.args.task c.requires.is_new c.if-task-branch.false in
    record { tasks = rw (c.with-else-task-branch.ensures.tasks, c.replace-above.ensures.value) (with_task-above forks c.requires.rises c.args.task is_above) }
