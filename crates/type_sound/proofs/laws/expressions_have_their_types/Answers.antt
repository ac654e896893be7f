use Rattle.type_sound.proofs.LawLemmas.{reachable_fit, reachable_static}
use Rattle.type_sound.proofs.laws.expressions_have_their_types.Goals as goal

pub returns : goal.returns
returns c = record { fit = reachable_fit; each = reachable_static }
