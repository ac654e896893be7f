use Rattle.std.proofs.Common.{take}
use Rattle.circularity_test.specs.Adding.{Adds, OfEach}
use Rattle.circularity_test.specs.Finding.{TermWaits, program_in, term_in}
use Rattle.circularity_test.proofs.finding.Finder.add_terms.Given as goal

-- the pairs of the terms so far were added
abbrev pub invariant-loop-term : goal.invariant-loop-term
invariant-loop-term l =
    Adds (OfEach (λ term. TermWaits (program_in l.self) l.self.facts.now l.kind (term_in l.self term))
    (take l.term-index l.terms)) l.initial.found.items l.found.items
