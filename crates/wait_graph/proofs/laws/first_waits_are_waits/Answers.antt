use Rattle.wait_graph.proofs.LawLemmas.{circle_is_circular, one_circle}
use Rattle.wait_graph.proofs.WaitLemmas.{first_is_wait}
use Rattle.wait_graph.proofs.laws.first_waits_are_waits.Goals as goal

pub returns : goal.returns
returns c = record { waits = first_is_wait; circular = circle_is_circular; one = one_circle }
