use Rattle.std.proofs.Common.{◌∙◌}
use Rattle.future_cells.proofs.RisingLemmas.{first_above-below, first_above-above}
use Rattle.future_cells.proofs.TreeLemmas.{tasks_of-fork}
use Rattle.future_cells.proofs.task_set.Tree.first_after.Goals as goal

pub loop-tree-preserved-then-from-branch : goal.loop-tree-preserved-then-from-branch
loop-tree-preserved-then-from-branch c =
    let forked = tasks_of-fork c.in-Fork.is c.deref-branch.ensures in
    let step = first_above-below forked c.loop-tree.invariant.rises c.args.from c.loop-tree.found c.if-from-branch.true in
    record { rises = step.0; same = step.1 ∙ c.loop-tree.invariant.same }

pub loop-tree-preserved : goal.loop-tree-preserved
loop-tree-preserved c =
    let forked = tasks_of-fork c.in-Fork.is c.deref-branch.ensures in
    let step = first_above-above forked c.loop-tree.invariant.rises c.args.from c.loop-tree.found c.if-from-branch.false in
    record { rises = step.0; same = step.1 ∙ c.loop-tree.invariant.same }
