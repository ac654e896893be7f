use Rattle.std.proofs.Common.{◌≡◌, ◌∙◌, ap, sym, refl, Some}
use Rattle.std.proofs.lemmas.Option.{same_Some}
use Rattle.contract_terms.specs.declared.fact.Fact.TheVariants.{Gives}
use Rattle.saturation.proofs.StepLemmas.{adds_by}
use Rattle.saturation.proofs.rules.Rules.give.Goals as goal

pub returns-then-lets_in : goal.returns-then-lets_in
returns-then-lets_in c =
    let is : Gives c.copied.result c.copied-then-lets_in.result ≡ Gives c.args.kind.now c.args.atom.now =
    rw (c.copied.ensures, c.copied-then-lets_in.ensures) refl in
    adds_by c.add.ensures (λ known fact given. ap Some (is ∙ sym given.1))
    (λ known fact just. (sym c.lets_in.ensures ∙ c.if-lets_in.true, sym (sym is ∙ same_Some _ _ just)))
