use Rattle.saturation.specs.Steps.{Finds, Holding}
use Rattle.saturation.specs.declared.key.Key.TheVariants.{Result}
use Rattle.saturation.proofs.HoldingLemmas.{holding_result, result_holding, holding_grows}
use Rattle.saturation.proofs.StepLemmas.{adds_by, adds_each_more, adds_found}
use Rattle.std.proofs.Common.{subst}
use Rattle.name_bounding.specs.declared.kind.Kind.{Kind}
use Rattle.saturation.proofs.rules.Rules.take_results.Goals as goal

pub loop-result-preserved : goal.loop-result-preserved
loop-result-preserved c =
    adds_each_more _ c.deref-result-items.result.now c.loop-result.result-index c.result-item.result
    c.loop-result-test.true c.result-item.is c.loop-result.invariant c.answer.ensures

pub returns : goal.returns
returns c =
    let task = c.args.task.now in
    adds_by (adds_found c.deref-result-items.ensures.value c.loop-result-test.false (holding_grows (Result task))
    (subst (λ (it : Kind). Finds (Holding (Result it)) c.atoms-results.result.items c.args.derivation.now
    c.atoms-results.new.self) c.copied.ensures c.atoms-results.ensures) c.loop-result.invariant)
    (λ known fact takes. record {
      one = takes.atom;
      there = result_holding task known takes.atom takes.given;
      asked = takes.answers;
    })
    (λ known fact each. record {
      atom = each.one;
      given = holding_result task known each.one each.there;
      answers = each.asked;
    })
