use Rattle.std.proofs.Common.{refl}
use Rattle.std.proofs.lemmas.List.{get_or_default}
use Rattle.saturation.proofs.MakeLemmas.{makes_each_more, makes_each_none, makes_found}
use Rattle.saturation.proofs.StartLemmas.{starts_kind}
use Rattle.saturation.proofs.StepLemmas.{adds_nothing}
use Rattle.saturation.proofs.rules.Rules.start.Goals as goal

pub loop-body-init : goal.loop-body-init
loop-body-init c = makes_each_none _ _ _ _ _ c.deref-body-items.result.now (adds_nothing _ _ refl)

pub loop-body-preserved : goal.loop-body-preserved
loop-body-preserved c =
    makes_each_more _ _ _ _ _ c.deref-body-items.result.now c.loop-body.body-index _ c.loop-body-test.true
    (get_or_default _ _ _ _ c.loop-body-test.true) c.loop-body.invariant c.start_body.ensures

pub returns : goal.returns
returns c =
    starts_kind (makes_found _ _ _ c.deref-body-items.ensures.value c.loop-body-test.false c.bodies_of-bodies.ensures
    c.loop-body.invariant)
