use Rattle.std.proofs.lemmas.List.{get_or_default}
use Rattle.saturation.specs.RuleViews.{program_of, terms_of}
use Rattle.saturation.proofs.PassLemmas.{lets_in_param_of, param_let_in}
use Rattle.saturation.proofs.StepLemmas.{adds_by, adds_each_more, adds_found}
use Rattle.saturation.proofs.rules.Rules.pass.Goals as goal

pub loop-body-preserved : goal.loop-body-preserved
loop-body-preserved c =
    adds_each_more _ c.deref-body-items.result.now c.loop-body.body-index _ c.loop-body-test.true
    (get_or_default _ _ _ _ c.loop-body-test.true) c.loop-body.invariant c.pass_to_body.ensures

pub returns : goal.returns
returns c =
    let program = program_of c.args.self.now in
    let terms = terms_of c.args.self.now in
    adds_by (adds_found c.deref-body-items.ensures.value c.loop-body-test.false (λ some others among own has. has)
    c.bodies_of-bodies.ensures c.loop-body.invariant)
    (λ known fact passes. record {
      one = passes.let_in.own;
      there = passes.let_in.has;
      asked = (lets_in_param_of program terms _ _ _ passes.let_in, passes.is);
    })
    (λ known fact each. record {
      let_in = param_let_in program terms _ _ _ each.one each.there each.asked.0;
      is = each.asked.1;
    })
