use Rattle.abs_sound.proofs.LawLemmas.{first_ordered, kept_ordered, reachable_ordered}
use Rattle.abs_sound.proofs.laws.knowledge_is_ordered.Goals as goal

pub returns : goal.returns
returns c = record { first = first_ordered; kept = kept_ordered; reachable = reachable_ordered }
