-- A field holds the atoms that another field holds.
use Rattle.std.proofs.Common.{subst}
use Rattle.name_bounding.specs.declared.kind.Sign.{Sign}
use Rattle.saturation.specs.Steps.{Finds, Holding}
use Rattle.saturation.specs.declared.key.Key.TheVariants.{Field}
use Rattle.saturation.proofs.HoldingLemmas.{field_holding, holding_field, holding_grows}
use Rattle.saturation.proofs.StepLemmas.{adds_by, adds_each_more, adds_found}
use Rattle.saturation.proofs.rules.Rules.begin_slot.Goals as goal

pub loop-atom-preserved : goal.loop-atom-preserved
loop-atom-preserved c =
    adds_each_more _ c.deref-atom-items.result.now c.loop-atom.atom-index c.atom-item.result
    c.loop-atom-test.true c.atom-item.is c.loop-atom.invariant c.fill_sum.ensures

pub returns : goal.returns
returns c =
    let sign = c.args.sign.now in
    adds_by (adds_found c.deref-atom-items.ensures.value c.loop-atom-test.false (holding_grows (Field sign c.args.slot))
    (subst (λ (it : Sign). Finds (Holding (Field it c.args.slot)) c.atoms-atoms.result.items c.args.derivation.now
    c.atoms-atoms.new.self) c.copied.ensures c.atoms-atoms.ensures) c.loop-atom.invariant)
    (λ known fact fills. record {
      one = fills.one;
      there = field_holding sign c.args.slot known fills.one fills.there;
      asked = fills.asked;
    })
    (λ known fact fills. record {
      one = fills.one;
      there = holding_field sign c.args.slot known fills.one fills.there;
      asked = fills.asked;
    })
