use Rattle.std.proofs.Common.{refl}
use Rattle.check_obj.proofs.ShapeLemmas.{value_known, value_unknown}
use Rattle.check_obj.proofs.right_sides.slot_value.Goals as goal

pub value_at-requires : goal.value_at-requires
value_at-requires c = (rw c.in-Some.is at c.variable_type.ensures _ (record { is = refl })).found_is

pub returns-in-Some : goal.returns-in-Some
returns-in-Some c context place knows =
    rw c.in-Slot.is
    (value_known c.value_at.ensures (rw (c.in-Some.is, c.in-Slot.is) at c.variable_type.ensures _ knows))

pub returns-in-None : goal.returns-in-None
returns-in-None c context place knows =
    rw c.in-Slot.is (value_unknown (rw (c.in-None.is, c.in-Slot.is) at c.variable_type.ensures _ knows))
