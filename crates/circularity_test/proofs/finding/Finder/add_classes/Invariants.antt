use Rattle.std.proofs.Common.{take}
use Rattle.circularity_test.specs.Adding.{Adds, OfEach}
use Rattle.circularity_test.specs.Finding.{ClassWaits, program_in}
use Rattle.circularity_test.proofs.finding.Finder.add_classes.Given as goal

-- the pairs of the classes so far were added
abbrev pub invariant-loop-class : goal.invariant-loop-class
invariant-loop-class l = Adds (OfEach (ClassWaits (program_in l.self) l.self.terms.now l.self.facts.now l.kind l.method)
    (take l.class-index l.classes)) l.initial.found.items l.found.items
