use Rattle.wait_graph.proofs.LawLemmas.{stuck_waits}
use Rattle.wait_graph.proofs.laws.stalled_tasks_wait.Goals as goal

pub returns : goal.returns
returns c = stuck_waits
