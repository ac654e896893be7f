use Rattle.std.proofs.Common.{◌∙◌}
use Rattle.std.proofs.lemmas.List.{get_or_default}
use Rattle.saturation.specs.RuleViews.{names_of, program_of}
use Rattle.saturation.proofs.KindBodyLemmas.{MethodFor, methods_found}
use Rattle.saturation.proofs.EachLemmas.{finds_each_more, finds_each_none}
use Rattle.saturation.proofs.rules.Rules.method_bodies.Goals as goal

pub loop-class-init : goal.loop-class-init
loop-class-init c =
    finds_each_none (MethodFor (program_of c.args.self.now) c.args.method) c.no_bodies-bodies.result.items
    c.classes_made-classes.result.now c.args.derivation.now

pub loop-class-preserved : goal.loop-class-preserved
loop-class-preserved c =
    finds_each_more (MethodFor (program_of c.args.self.now) c.args.method) c.no_bodies-bodies.result.items
    c.classes_made-classes.result.now c.loop-class.class-index _ c.loop-class-test.true
    (get_or_default _ _ _ _ c.loop-class-test.true) c.loop-class.invariant c.add_body.ensures

pub returns : goal.returns
returns c =
    methods_found (program_of c.args.self.now) c.args.sign.now c.args.method c.classes_made-classes.result.now
    (c.classes_made-classes.ensures (names_of c.args.self.now) ∙ c.args.self.now.made c.args.sign.now.place)
    c.no_bodies-bodies.result.items c.loop-class.class-index c.no_bodies-bodies.ensures c.loop-class-test.false
    c.loop-class.invariant
