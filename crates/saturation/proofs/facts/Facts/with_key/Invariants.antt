-- What was found so far, and how far the walk is from the first fact.
use Rattle.saturation.proofs.WalkLemmas.{stand, FoundSoFar}
use Rattle.saturation.proofs.facts.Facts.with_key.Given as goal

abbrev pub invariant-loop-next : goal.invariant-loop-next
invariant-loop-next l = FoundSoFar l.self l.key l.next l.found.items

abbrev pub decreases-loop-next : goal.decreases-loop-next
decreases-loop-next l = stand l.next
