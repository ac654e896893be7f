use Rattle.std.proofs.Common.{refl}
use Rattle.check_fun.proofs.ContextLemmas.{finds_stays, stays_reflexive, stays_transitive}
use Rattle.check_fun.proofs.SchemeLemmas.{one_more_found, scheme_found}
use Rattle.check_fun.proofs.checker.Checker.to_string_scheme.Goals as goal
use Rattle.check_fun.proofs.FoundLemmas.{finds_all_none}

pub returns-clause-found : goal.returns-clause-found
returns-clause-found c =
    scheme_found 1 c.in_ok-vec.field-0
    (one_more_found stays_reflexive finds_all_none (finds_stays c.string.ensures.stays c.in_ok-any.ensures.found)
    (c.in_ok-vec.ensures.items_if_clones_equal (λ y same. same)) refl)
    c.in_ok-gives.ensures.found

pub returns-clause-stays : goal.returns-clause-stays
returns-clause-stays c = stays_transitive c.parameter.ensures.stays c.string.ensures.stays
