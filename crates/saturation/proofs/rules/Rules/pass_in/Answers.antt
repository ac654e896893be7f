use Rattle.saturation.proofs.HandlingLemmas.{passes_kind}
use Rattle.std.proofs.lemmas.List.{get_or_default}
use Rattle.saturation.proofs.StepLemmas.{adds_each_more, adds_found}
use Rattle.saturation.proofs.rules.Rules.pass_in.Goals as goal

pub loop-body-preserved : goal.loop-body-preserved
loop-body-preserved c =
    adds_each_more _ c.deref-body-items.result.now c.loop-body.body-index _ c.loop-body-test.true
    (get_or_default _ _ _ _ c.loop-body-test.true) c.loop-body.invariant c.pass_in_body.ensures

pub returns : goal.returns
returns c =
    passes_kind (adds_found c.deref-body-items.ensures.value c.loop-body-test.false (λ some others among one has. has)
    c.bodies_of-bodies.ensures c.loop-body.invariant)
