use Rattle.check_fun.proofs.ContextLemmas.{knows_stays, stays_transitive}
use Rattle.check_fun.proofs.SchemeLemmas.{built_found}
use Rattle.check_fun.proofs.checker.Checker.constructor_scheme.Goals as goal

pub returns-clause-found : goal.returns-clause-found
returns-clause-found c context knows =
    built_found (rw c.in-Some.is at (c.in_ok-owner.ensures.found context knows)) c.in_ok-gives.ensures.stays
    (c.in_ok-gives.ensures.found context (knows_stays c.in_ok-owner.ensures.stays knows))

pub returns-clause-stays : goal.returns-clause-stays
returns-clause-stays c = stays_transitive c.in_ok-owner.ensures.stays c.in_ok-gives.ensures.stays
