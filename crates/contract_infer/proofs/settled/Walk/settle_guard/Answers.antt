use Rattle.std.proofs.Common.{List}
use Rattle.abs_tree.specs.SyntaxViews.{tests}
use Rattle.abs_tree.specs.declared.syntax.statement.Test.{Test}
use Rattle.contract_infer.proofs.SettledStepLemmas.{loop_goes_on, loop_ends}
use Rattle.contract_infer.proofs.SettledWalkLemmas.{settles_loop}
use Rattle.contract_infer.specs.SettledWalk.{added, among, named_slots_in}
use Rattle.contract_infer.proofs.settled.Walk.settle_guard.Goals as goal

pub loop-test-preserved : goal.loop-test-preserved
loop-test-preserved c names =
    loop_goes_on (settles_loop names) c.args.guard.now c.loop-test.test-index c.test-item.result c.loop-test-test.true
    c.test-item.is (c.loop-test.invariant names) (rw (← c.named_by.ensures names) c.settle.ensures)

pub returns : goal.returns
returns c names =
    loop_ends (λ (guard : List Test). added (among (named_slots_in (tests names guard)))) c.args.guard.now
    c.loop-test.test-index c.loop-test-test.false (c.loop-test.invariant names)
