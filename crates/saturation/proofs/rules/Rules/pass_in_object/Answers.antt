use Rattle.std.proofs.Common.{subst}
use Rattle.name_bounding.specs.declared.kind.Sign.{Sign}
use Rattle.saturation.proofs.HandlingLemmas.{passes_object}
use Rattle.saturation.proofs.HoldingLemmas.{key_grows}
use Rattle.saturation.proofs.StepLemmas.{adds_each_more, adds_found}
use Rattle.saturation.specs.Steps.{Finds, HasKey}
use Rattle.saturation.specs.declared.key.Key.TheVariants.{Object}
use Rattle.saturation.proofs.rules.Rules.pass_in_object.Goals as goal

pub loop-fact-preserved : goal.loop-fact-preserved
loop-fact-preserved c =
    adds_each_more _ c.deref-fact-items.result.now c.loop-fact.fact-index c.fact-item.result c.loop-fact-test.true
    c.fact-item.is c.loop-fact.invariant c.pass_in_kind.ensures

pub returns : goal.returns
returns c =
    passes_object (adds_found c.deref-fact-items.ensures.value c.loop-fact-test.false
    (key_grows (Object c.args.sign.now))
    (subst (λ (it : Sign). Finds (HasKey (Object it)) c.with_key-live.result.items c.args.derivation.now
    c.with_key-live.new.self) c.copied.ensures c.with_key-live.ensures) c.loop-fact.invariant)
