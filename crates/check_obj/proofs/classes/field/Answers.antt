use Rattle.std.proofs.lemmas.Result.{on_ok_weaker}
use Rattle.abs_types.specs.TypeOffences.{value_frame}
use Rattle.check_fun.proofs.ContextLemmas.{finds_stays, found_stays, knows_stays}
use Rattle.check_fun.specs.Contexts.{with_frame}
use Rattle.check_obj.proofs.ClassLemmas.{known_with}
use Rattle.check_obj.proofs.classes.field.Goals as goal

pub add_slot-requires : goal.add_slot-requires
add_slot-requires c = found_stays c.in_ok-field_value.ensures.stays c.requires

pub returns-clause-knows : goal.returns-clause-knows
returns-clause-knows c context known type knows finds =
    let stays = c.in_ok-field_value.ensures.stays in
    on_ok_weaker c.add_slot.result (known_with context known type)
    (c.add_slot.ensures.knows (with_frame context (value_frame known)) type (knows_stays stays knows)
    (finds_stays stays finds))
