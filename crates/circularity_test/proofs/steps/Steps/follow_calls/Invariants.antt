use Rattle.std.proofs.Common.{take}
use Rattle.circularity_test.specs.Adding.{OfEach}
use Rattle.circularity_test.specs.Parts.{Gets}
use Rattle.circularity_test.specs.Steps.{TermStep, program_of}
use Rattle.circularity_test.proofs.steps.Steps.follow_calls.Given as goal

-- the edges by the terms so far were added
abbrev pub invariant-loop-term : goal.invariant-loop-term
invariant-loop-term l = Gets (OfEach (TermStep (program_of l.self) l.sign l.class l.member)
    (take l.term-index l.term-items)) l.fn.parts l.parts
