use Rattle.abs_types.proofs.WiderLemmas.{type_stays}
use Rattle.abs_types.proofs.laws.types_stay_in_wider_frames.Goals as goal

pub returns : goal.returns
returns c = type_stays
