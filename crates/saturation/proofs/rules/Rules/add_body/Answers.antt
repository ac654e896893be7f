use Rattle.std.proofs.Common.{[], sym, ap, ◌∙◌, Some}
use Rattle.std.proofs.lemmas.Option.{none-some, same_Some}
use Rattle.saturation.specs.RuleViews.{program_of}
use Rattle.saturation.proofs.KindBodyLemmas.{MethodFor}
use Rattle.saturation.proofs.EachLemmas.{finds_none}
use Rattle.saturation.proofs.FindLemmas.{finds_one}
use Rattle.saturation.proofs.rules.Rules.add_body.Goals as goal

pub returns-in-Some : goal.returns-in-Some
returns-in-Some c =
    let there = MethodFor (program_of c.args.self.now) c.args.method c.args.class [] in
    finds_one c.args.bodies.now.items c.in-Some.body there c.push_body.ensures
    (λ own same. (c.of_method.ensures own).0 (c.in-Some.is ∙ ap Some same))
    (λ own is. same_Some _ own (sym c.in-Some.is ∙ (c.of_method.ensures own).1 is))

pub returns-in-None : goal.returns-in-None
returns-in-None c =
    finds_none c.args.bodies.now.items (MethodFor (program_of c.args.self.now) c.args.method c.args.class)
    (λ known own is. none-some own (sym c.in-None.is ∙ (c.of_method.ensures own).1 is))
