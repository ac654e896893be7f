use Rattle.std.proofs.Common.{refl}
use Rattle.future_cells.proofs.OrderLemmas.{first_has_event}
use Rattle.future_cells.proofs.order.next_task.Goals as goal
use Rattle.run_history.specs.Turns.{Begins}

pub returns-in-None-clause-some : goal.returns-in-None-clause-some
returns-in-None-clause-some c program names tasks_are begins =
    let first = begins c.in-None.is in
    rw c.in-None.is (Begins refl (rw first (first_has_event program)))

pub returns-in-Some-clause-some : goal.returns-in-Some-clause-some
returns-in-Some-clause-some c program names tasks_are begins =
    rw c.in-Some.is (c.next_after.ensures.some program names tasks_are)
