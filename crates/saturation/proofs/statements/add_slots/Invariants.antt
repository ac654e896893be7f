use Rattle.saturation.specs.Passing.{HoldsIn}
use Rattle.saturation.proofs.EachLemmas.{FoundSoFar}
use Rattle.saturation.proofs.statements.add_slots.Given as goal

-- the atoms of the slots so far were found
abbrev pub invariant-loop-slot : goal.invariant-loop-slot
invariant-loop-slot l = FoundSoFar (HoldsIn l.kind) l.initial.atoms.items l.slots l.slot-index l.atoms.items
    l.initial.derivation l.derivation
