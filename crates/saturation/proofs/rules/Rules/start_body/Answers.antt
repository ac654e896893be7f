use Rattle.std.proofs.Common.{refl}
use Rattle.saturation.proofs.MakeLemmas.{makes_each, makes_each_more, makes_each_none}
use Rattle.saturation.proofs.StartLemmas.{starts_body}
use Rattle.saturation.specs.RuleViews.{term_of}
use Rattle.saturation.proofs.StepLemmas.{adds_nothing}
use Rattle.saturation.proofs.rules.Rules.start_body.Goals as goal

pub loop-term-init : goal.loop-term-init
loop-term-init c = makes_each_none _ _ _ _ _ c.terms_of-term-items.result.now (adds_nothing _ _ refl)

pub loop-term-preserved : goal.loop-term-preserved
loop-term-preserved c =
    makes_each_more _ _ _ _ _ c.terms_of-term-items.result.now c.loop-term.term-index c.term-item.result
    c.loop-term-test.true c.term-item.is c.loop-term.invariant c.start_term.ensures

pub returns : goal.returns
returns c =
    starts_body (term_of c.args.self.now) c.terms_of-term-items.result.now c.terms_of-term-items.ensures
    (makes_each _ _ _ _ _ c.terms_of-term-items.result.now c.loop-term.term-index c.loop-term-test.false
    c.loop-term.invariant)
