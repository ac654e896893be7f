use Rattle.std.proofs.Common.{refl}
use Rattle.std.proofs.lemmas.Result.{on_ok_weaker}
use Rattle.check_fun.proofs.ContextLemmas.{knows_stays, stays_transitive}
use Rattle.check_fun.specs.Contexts.{Stays}
use Rattle.check_fun.proofs.checker.Checker.asked_value.Goals as goal

pub asked-requires : goal.asked-requires
asked-requires c = (c.in_ok-asked.ensures.found _ (record { is = refl })).found_is

pub returns-clause-noted : goal.returns-clause-noted
returns-clause-noted c context knows =
    let noted = c.asked.ensures.noted context _ (knows_stays c.in_ok-asked.ensures.stays knows)
    (c.in_ok-asked.ensures.found context knows) in
    rw (c.written.ensures.first, c.place.ensures context.names) at noted

pub returns-clause-stays : goal.returns-clause-stays
returns-clause-stays c =
    on_ok_weaker c.asked.result
    (λ (stays : Stays c.written.new.self c.asked.new.self). stays_transitive c.in_ok-asked.ensures.stays stays)
    c.asked.ensures.stays
