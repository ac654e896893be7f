use Rattle.abs_sound.proofs.LawLemmas.{never_closes}
use Rattle.abs_sound.proofs.laws.knowledge_never_closes.Goals as goal

pub returns : goal.returns
returns c = never_closes
