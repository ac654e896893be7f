use Rattle.std.proofs.Common.{◌∙◌, ap, sym}
use Rattle.contract_terms.specs.Atoms.{held_by}
use Rattle.saturation.proofs.StepLemmas.{adds_by}
use Rattle.saturation.specs.RuleViews.{names_of}
use Rattle.saturation.proofs.rules.Rules.answer.Goals as goal

pub returns-then-lets_in : goal.returns-then-lets_in
returns-then-lets_in c =
    let names = names_of c.args.self.now in
    let is = c.held_by.ensures names
    ∙ ap (λ target. held_by c.args.kind.now target c.args.atom.now) (c.target_of.ensures names) in
    adds_by c.add_some.ensures (λ known fact answers. is ∙ answers.held)
    (λ known fact just. record { let_in = sym c.lets_in.ensures ∙ c.if-lets_in.true; held = sym is ∙ just })
