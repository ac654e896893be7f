use Rattle.abs_graph.proofs.ReachLemmas.{reaches_found, reaches_whole}
use Rattle.abs_graph.proofs.laws.reaches_is_reported.Goals as goal

pub returns-clause-found : goal.returns-clause-found
returns-clause-found c = reaches_found

pub returns-clause-whole : goal.returns-clause-whole
returns-clause-whole c = reaches_whole
