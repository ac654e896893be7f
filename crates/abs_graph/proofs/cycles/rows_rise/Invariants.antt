use Rattle.abs_graph.proofs.CertificateLemmas.{RisesBelow}
use Rattle.abs_graph.proofs.cycles.rows_rise.Given as goal

abbrev pub invariant-loop-node : goal.invariant-loop-node
invariant-loop-node l = RisesBelow l.graph l.places l.node
