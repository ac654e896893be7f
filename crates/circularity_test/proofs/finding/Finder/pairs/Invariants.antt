use Rattle.std.proofs.Common.{[], take}
use Rattle.circularity_test.specs.Adding.{Adds, OfEach}
use Rattle.circularity_test.specs.Finding.{LiveWaits, program_in}
use Rattle.circularity_test.proofs.finding.Finder.pairs.Given as goal

-- the pairs of the facts so far were added
abbrev pub invariant-loop-index : goal.invariant-loop-index
invariant-loop-index l = Adds (OfEach (LiveWaits (program_in l.self) l.self.terms.now l.self.facts.now)
    (take l.index l.self.facts.now)) [] l.found.items
