use Rattle.saturation.proofs.AddedLemmas.{added_start, added_number, added_all}
use Rattle.saturation.proofs.uses.Uses.add_slots.Goals as goal

pub loop-slot-init : goal.loop-slot-init
loop-slot-init c = added_start

pub loop-slot-preserved : goal.loop-slot-preserved
loop-slot-preserved c = added_number c.loop-slot.invariant c.loop-slot-test.true c.in_ok-add.ensures

pub returns : goal.returns
returns c = added_all c.loop-slot.invariant c.loop-slot-test.false
