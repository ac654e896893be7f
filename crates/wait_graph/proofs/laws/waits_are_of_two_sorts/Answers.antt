use Rattle.wait_graph.proofs.LawLemmas.{held_by_name, named_open}
use Rattle.wait_graph.proofs.laws.waits_are_of_two_sorts.Goals as goal

pub returns : goal.returns
returns c = record { held = held_by_name; named = named_open }
