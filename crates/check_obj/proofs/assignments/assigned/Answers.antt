use Rattle.check_fun.proofs.ContextLemmas.{stays_transitive}
use Rattle.check_obj.proofs.assignments.assigned.Goals as goal

pub fitting_side-requires : goal.fitting_side-requires
fitting_side-requires c = rw c.in-Some.is at c.target_type.ensures.there

pub returns-in_ok-right_side-in-None-clause-stays : goal.returns-in_ok-right_side-in-None-clause-stays
returns-in_ok-right_side-in-None-clause-stays c =
    stays_transitive c.note_if.ensures.stays c.in_ok-right_side-in-None.ensures.stays
