use Rattle.std.proofs.Common.{refl}
use Rattle.std.proofs.lemmas.List.{get_or_default}
use Rattle.circularity_test.proofs.AddingLemmas.{each_all, each_more, each_none}
use Rattle.circularity_test.proofs.finding.Finder.add_slots.Goals as goal

pub loop-slot-init : goal.loop-slot-init
loop-slot-init c = each_none c.args.slots.now refl

pub loop-slot-preserved : goal.loop-slot-preserved
loop-slot-preserved c =
    each_more c.args.slots.now c.loop-slot.slot-index _ c.loop-slot-test.true
    (get_or_default _ _ _ _ c.loop-slot-test.true) c.loop-slot.invariant c.in_ok-add_slot.ensures

pub returns : goal.returns
returns c = each_all c.args.slots.now c.loop-slot.slot-index c.loop-slot-test.false c.loop-slot.invariant
