use Rattle.std.proofs.Common.{◌∙◌, arith}
use Rattle.future_cells.proofs.RisingLemmas.{shorter, narrowed_below, narrowed_above, above-root, all_above-fork, all_below-fork}
use Rattle.future_cells.proofs.TreeLemmas.{tasks_of-fork}
use Rattle.future_cells.proofs.task_set.Tree.+split.Goals as goal

pub split-below-requires : goal.split-below-requires
split-below-requires t c =
    let forks = tasks_of-fork c.in-Fork.is c.deref_mut-branch.ensures.value in
    let step = narrowed_below forks c.requires.rises c.args.task c.if-task-branch.true in
    let less = (shorter forks).0 in
    rw c.replace.ensures.value (omega arith, (step.0, step.1 ∙ c.requires.is_new))

pub split-between-requires : goal.split-between-requires
split-between-requires t c =
    let forks = tasks_of-fork c.in-Fork.is c.deref_mut-branch.ensures.value in
    let is_above = above-root forks c.args.task c.requires.is_new c.if-task-branch.false in
    let step = narrowed_above forks c.requires.rises c.args.task is_above in
    let less = (shorter forks).1 in
    rw c.replace-else-task-branch.ensures.value (omega arith, (step.0, step.1 ∙ c.requires.is_new))

pub returns-then-task-branch-clause-above : goal.returns-then-task-branch-clause-above
returns-then-task-branch-clause-above t c =
    let forks = tasks_of-fork c.in-Fork.is c.deref_mut-branch.ensures.value in
    all_above-fork forks c.requires.rises c.args.task _ c.if-task-branch.true c.split-below.ensures.above

pub returns-else-task-branch-clause-below : goal.returns-else-task-branch-clause-below
returns-else-task-branch-clause-below t c =
    let forks = tasks_of-fork c.in-Fork.is c.deref_mut-branch.ensures.value in
    let is_above = above-root forks c.args.task c.requires.is_new c.if-task-branch.false in
    all_below-fork forks c.requires.rises c.args.task _ is_above c.split-between.ensures.below
