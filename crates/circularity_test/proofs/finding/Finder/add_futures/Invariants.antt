use Rattle.circularity_test.proofs.WalkingLemmas.{stand}
use Rattle.circularity_test.specs.Finding.{WalkedTo}
use Rattle.circularity_test.proofs.finding.Finder.add_futures.Given as goal

-- what was found so far, and how far the walk is from the first fact
abbrev pub invariant-loop-next : goal.invariant-loop-next
invariant-loop-next l = WalkedTo l.self.facts.now l.waiting l.slot l.next l.initial.found.items l.found.items

abbrev pub decreases-loop-next : goal.decreases-loop-next
decreases-loop-next l = stand l.next
