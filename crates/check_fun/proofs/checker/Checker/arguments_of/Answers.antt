use Rattle.std.proofs.Common.{sym, refl, ◌∙◌, true≢false}
use Rattle.check_fun.proofs.ContextLemmas.{finds_stays, found_stays}
use Rattle.check_fun.proofs.PartLemmas.{arguments_found, not_that_data}
use Rattle.check_fun.specs.Contexts.{context_in}
use Rattle.check_fun.proofs.checker.Checker.arguments_of.Goals as goal

pub spine-requires : goal.spine-requires
spine-requires c = found_stays c.data.ensures.stays c.requires

pub are_same-requires-clause-other : goal.are_same-requires-clause-other
are_same-requires-clause-other c =
    (c.in_ok-owner.ensures.found (context_in c.args.self.now) (record { is = refl })).found_is.among

pub returns-then-not-are_same-clause-found : goal.returns-then-not-are_same-clause-found
returns-then-not-are_same-clause-found c context type knows found =
    not_that_data (finds_stays c.data.ensures.stays found) (c.in_ok-owner.ensures.found context knows)
    c.in_ok-head.ensures.is c.in_ok-head.ensures.last
    (λ same. true≢false (sym (c.are_same.ensures.1 same) ∙ c.if-not-are_same.true))

pub returns-clause-found : goal.returns-clause-found
returns-clause-found c context type knows found =
    arguments_found (finds_stays c.data.ensures.stays found) (c.in_ok-owner.ensures.found context knows)
    c.in_ok-head.ensures.is (c.are_same.ensures.0 c.if-not-are_same.false) c.reverse.ensures.items
