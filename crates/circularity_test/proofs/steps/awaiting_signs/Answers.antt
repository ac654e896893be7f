use Rattle.std.proofs.Common.{◌≤◌, arith, subst}
use Rattle.std.proofs.lemmas.List.{take_all}
use Rattle.circularity_test.proofs.StepLemmas.{signs_more}
use Rattle.circularity_test.specs.Steps.{AwaitingSigns}
use Rattle.circularity_test.proofs.steps.awaiting_signs.Goals as goal

pub loop-index-init : goal.loop-index-init
loop-index-init c sign awaits = absurd (omega (arith, awaits.there.1))

pub loop-index-preserved : goal.loop-index-preserved
loop-index-preserved c =
    signs_more c.args.pairs.now c.loop-index.index c.at.result.now c.loop-index.signs.keys c.add_sign.new.signs.keys
    c.at.ensures c.loop-index.invariant c.in_ok-add_sign.ensures

pub returns : goal.returns
returns c =
    subst (λ pairs. AwaitingSigns pairs c.loop-index.signs.keys)
    (take_all c.loop-index.index c.args.pairs.now
    (subst (λ count. count ≤ c.loop-index.index) c.len-index-end.ensures.count c.loop-index-test.false))
    c.loop-index.invariant
