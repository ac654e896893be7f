use Rattle.std.proofs.Common.{subst}
use Rattle.name_bounding.specs.declared.kind.Kind.{Kind}
use Rattle.saturation.proofs.HoldingLemmas.{holding_grows}
use Rattle.saturation.proofs.StartLemmas.{gets_from}
use Rattle.saturation.proofs.StepLemmas.{adds_each_more, adds_found}
use Rattle.saturation.specs.Steps.{Finds, Holding}
use Rattle.saturation.specs.declared.key.Key.TheVariants.{Slot}
use Rattle.saturation.proofs.rules.Rules.get_from.Goals as goal

pub loop-future-preserved : goal.loop-future-preserved
loop-future-preserved c =
    adds_each_more _ c.deref-future-items.result.now c.loop-future.future-index c.future-item.result
    c.loop-future-test.true c.future-item.is c.loop-future.invariant c.resolve.ensures

pub returns : goal.returns
returns c =
    gets_from (adds_found c.deref-future-items.ensures.value c.loop-future-test.false
    (holding_grows (Slot c.args.kind.now c.args.slot))
    (subst (λ (it : Kind). Finds (Holding (Slot it c.args.slot)) c.atoms-futures.result.items c.args.derivation.now
    c.atoms-futures.new.self) c.copied.ensures c.atoms-futures.ensures) c.loop-future.invariant)
