use Rattle.saturation.proofs.AddedLemmas.{added_start, added_item, added_all}
use Rattle.saturation.proofs.uses.Uses.add_methods.Goals as goal

pub loop-index-init : goal.loop-index-init
loop-index-init c = added_start

pub loop-index-preserved : goal.loop-index-preserved
loop-index-preserved c =
    added_item c.index-methods-index.result c.loop-index.invariant c.loop-index-test.true c.index-methods-index.is
    c.in_ok-add_method.ensures

pub returns : goal.returns
returns c = added_all c.loop-index.invariant c.loop-index-test.false
