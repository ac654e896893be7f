use Rattle.wait_graph.proofs.LawLemmas.{goes_on}
use Rattle.wait_graph.proofs.laws.progress.Goals as goal

pub returns : goal.returns
returns c = goes_on
