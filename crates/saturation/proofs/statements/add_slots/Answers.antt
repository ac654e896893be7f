use Rattle.std.proofs.lemmas.List.{get_or_default}
use Rattle.saturation.specs.Passing.{HoldsIn}
use Rattle.saturation.proofs.AtomLemmas.{slot_found}
use Rattle.saturation.proofs.EachLemmas.{finds_each, finds_each_more, finds_each_none}
use Rattle.saturation.proofs.statements.add_slots.Goals as goal

pub loop-slot-init : goal.loop-slot-init
loop-slot-init c =
    finds_each_none (HoldsIn c.args.kind.now) c.args.atoms.now.items c.args.slots.now c.args.derivation.now

pub loop-slot-preserved : goal.loop-slot-preserved
loop-slot-preserved c =
    finds_each_more (HoldsIn c.args.kind.now) c.args.atoms.now.items c.args.slots.now c.loop-slot.slot-index _
    c.loop-slot-test.true (get_or_default _ _ _ _ c.loop-slot-test.true) c.loop-slot.invariant
    (slot_found c.args.kind.now c.copied.result _ c.copied.ensures c.loop-slot.atoms.items c.add_atoms.ensures)

pub returns : goal.returns
returns c =
    finds_each (HoldsIn c.args.kind.now) c.args.atoms.now.items c.args.slots.now c.loop-slot.slot-index
    c.loop-slot-test.false c.loop-slot.invariant
