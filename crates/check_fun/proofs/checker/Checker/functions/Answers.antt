use Rattle.check_fun.proofs.FunctionLemmas.{none_checked, one_checked, all_checked}
use Rattle.check_fun.proofs.checker.Checker.functions.Goals as goal

pub loop-declaration-init : goal.loop-declaration-init
loop-declaration-init c = none_checked

pub loop-declaration-preserved : goal.loop-declaration-preserved
loop-declaration-preserved c =
    one_checked c.deref-declaration-items.result.now c.loop-declaration.declaration-index c.declaration-item.result
    c.loop-declaration.invariant c.loop-declaration-test.true c.declaration-item.is
    c.in_ok-function.ensures.noted c.in_ok-function.ensures.keeps

pub returns-clause-noted : goal.returns-clause-noted
returns-clause-noted c =
    all_checked c.deref-declaration-items.result.now c.loop-declaration.declaration-index c.loop-declaration.invariant
    c.loop-declaration-test.false c.deref-declaration-items.ensures.value

pub returns-clause-keeps : goal.returns-clause-keeps
returns-clause-keeps c = c.loop-declaration.invariant.keeps
