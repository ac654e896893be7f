use Rattle.std.proofs.Common.{take}
use Rattle.circularity_test.specs.Adding.{Adds, OfEach}
use Rattle.circularity_test.specs.Finding.{SlotWaits}
use Rattle.circularity_test.proofs.finding.Finder.add_slots.Given as goal

-- the pairs of the slots so far were added
abbrev pub invariant-loop-slot : goal.invariant-loop-slot
invariant-loop-slot l = Adds (OfEach (SlotWaits l.self.facts.now l.waiting l.settled) (take l.slot-index l.slots))
    l.initial.found.items l.found.items
