use Rattle.wait_graph.proofs.LawLemmas.{stuck_circle, stuck_circular}
use Rattle.wait_graph.proofs.laws.stalled_has_a_circle.Goals as goal

pub returns : goal.returns
returns c = record { circular = stuck_circular; first = stuck_circle }
