-- No fact is there twice, since the set has each once.
use Rattle.std.proofs.Common.{subst}
use Rattle.std.proofs.lemmas.Map.Made.{AllPairs-from_IsDistinct}
use Rattle.contract_terms.specs.Derived.{AreDistinct}
use Rattle.saturation.proofs.KeyLemmas.{fact_eq_decides}
use Rattle.saturation.proofs.facts.Facts.len.Goals as goal

pub returns-clause-distinct : goal.returns-clause-distinct
returns-clause-distinct c =
    subst AreDistinct c.self.view_is
    (AllPairs-from_IsDistinct fact_eq_decides c.self.inside.facts.keys c.len.ensures.unique)
