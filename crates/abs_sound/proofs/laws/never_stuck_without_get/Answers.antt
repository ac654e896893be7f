use Rattle.abs_sound.proofs.StuckLemmas.{never_stuck}
use Rattle.abs_sound.proofs.laws.never_stuck_without_get.Goals as goal

pub returns : goal.returns
returns c = never_stuck
