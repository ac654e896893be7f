use Rattle.saturation.proofs.AddedLemmas.{EachBefore}
use Rattle.saturation.proofs.uses.Uses.add_slots.Given as goal
use Rattle.saturation.specs.UsesAdded.{Added, SlotRead}

-- the slots so far were added
abbrev pub invariant-loop-slot : goal.invariant-loop-slot
invariant-loop-slot l =
    Added (EachBefore (SlotRead l.body l.term l.expr) l.slots l.slot-index) l.initial.self l.self
