use Rattle.std.proofs.Common.{Contains, refl, subst, sym, ◌∙◌}
use Rattle.std.proofs.lemmas.Bool.{false≢true}
use Rattle.contract_terms.specs.declared.fact.Fact.TheVariants.{Live}
use Rattle.name_bounding.specs.declared.kind.Kind.{Kind}
use Rattle.saturation.proofs.HandlingLemmas.{passes_live, passes_dead}
use Rattle.saturation.proofs.rules.Rules.pass_in_live.Goals as goal

pub returns-then-has : goal.returns-then-has
returns-then-has c =
    passes_live (subst (λ (it : Kind). Contains c.args.derivation.now.facts (Live it)) c.copied.ensures
    (c.has.ensures.there c.if-has.true)) c.pass_in.ensures

pub returns-else-has : goal.returns-else-has
returns-else-has c =
    passes_dead (λ live. false≢true (sym c.if-has.false ∙ c.has.ensures.complete
    (subst (λ (it : Kind). Contains c.args.derivation.now.facts (Live it)) (sym c.copied.ensures) live))) refl
