-- The set has a fact just where the list does.
use Rattle.std.proofs.Common.{sym, ◌∙◌, subst, Contains}
use Rattle.std.proofs.lemmas.Map.Views.{Contains-from_any, list_any-from_Contains}
use Rattle.saturation.proofs.KeyLemmas.{fact_eq, fact_eq_same, fact_eq_laws}
use Rattle.saturation.proofs.facts.Facts.has.Goals as goal

pub returns-clause-there : goal.returns-clause-there
returns-clause-there c there =
    subst (λ facts. Contains facts c.args.fact.now) c.self.view_is
    (Contains-from_any {eq = fact_eq} fact_eq_same c.args.fact.now c.self.inside.facts.keys
    (sym c.contains.ensures ∙ there))

pub returns-clause-complete : goal.returns-clause-complete
returns-clause-complete c there =
    c.contains.ensures
    ∙ list_any-from_Contains fact_eq_laws c.args.fact.now c.self.inside.facts.keys
    (subst (λ facts. Contains facts c.args.fact.now) (sym c.self.view_is) there)
