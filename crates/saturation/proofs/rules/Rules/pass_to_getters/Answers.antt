use Rattle.std.proofs.Common.{subst}
use Rattle.name_bounding.specs.declared.kind.Kind.{Kind}
use Rattle.saturation.proofs.HandlingLemmas.{passes_getters}
use Rattle.saturation.proofs.HoldingLemmas.{key_grows}
use Rattle.saturation.proofs.StepLemmas.{adds_each_more, adds_found}
use Rattle.saturation.specs.Steps.{Finds, HasKey}
use Rattle.saturation.specs.declared.key.Key.TheVariants.{Future}
use Rattle.saturation.proofs.rules.Rules.pass_to_getters.Goals as goal

pub loop-fact-preserved : goal.loop-fact-preserved
loop-fact-preserved c =
    adds_each_more _ c.deref-fact-items.result.now c.loop-fact.fact-index c.fact-item.result c.loop-fact-test.true
    c.fact-item.is c.loop-fact.invariant c.pass_to_holder.ensures

pub returns : goal.returns
returns c =
    passes_getters (adds_found c.deref-fact-items.ensures.value c.loop-fact-test.false
    (key_grows (Future c.args.task.now))
    (subst (λ (it : Kind). Finds (HasKey (Future it)) c.with_key-holders.result.items c.args.derivation.now
    c.with_key-holders.new.self) c.copied.ensures c.with_key-holders.ensures) c.loop-fact.invariant)
