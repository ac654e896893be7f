use Rattle.check_fun.proofs.ContextLemmas.{stays_transitive}
use Rattle.check_obj.proofs.SideLemmas.{future_of}
use Rattle.check_obj.proofs.right_sides.sent.Goals as goal

pub future-requires : goal.future-requires
future-requires c = rw c.in-Some.is at c.in_ok-gives.ensures.there

pub returns-in_ok-future-in-Some-clause-found : goal.returns-in_ok-future-in-Some-clause-found
returns-in_ok-future-in-Some-clause-found c context knows =
    let found = c.in_ok-gives.ensures.found context knows in
    future_of (rw c.in-Some.is at found) c.in_ok-future-in-Some.ensures.found

pub returns-in_ok-future-in-Some-clause-stays : goal.returns-in_ok-future-in-Some-clause-stays
returns-in_ok-future-in-Some-clause-stays c = stays_transitive c.in_ok-gives.ensures.stays c.future.ensures.stays
