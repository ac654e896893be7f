use Rattle.type_sound.proofs.LawLemmas.{kept, reachable_typed, starts}
use Rattle.type_sound.proofs.laws.types_are_kept.Goals as goal

pub returns : goal.returns
returns c = record { first = starts; kept = kept; reachable = reachable_typed }
