use Rattle.type_sound.proofs.FutureLemmas.{future_inside_has_type}
use Rattle.type_sound.proofs.HoldingLemmas.{object_inside_fits}
use Rattle.type_sound.proofs.LawLemmas.{reachable_field_has_no_future}
use Rattle.type_sound.proofs.laws.values_hold_what_types_hold.Goals as goal

pub returns : goal.returns
returns c = record {
  objects = object_inside_fits;
  futures = future_inside_has_type;
  fields = reachable_field_has_no_future;
}
