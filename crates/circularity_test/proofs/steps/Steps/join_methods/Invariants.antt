use Rattle.std.proofs.Common.{take}
use Rattle.circularity_test.specs.Adding.{OfEach}
use Rattle.circularity_test.specs.Parts.{Gets}
use Rattle.circularity_test.specs.Steps.{ClassStep, program_of}
use Rattle.circularity_test.proofs.steps.Steps.join_methods.Given as goal

-- the edges by the classes so far were added
abbrev pub invariant-loop-class : goal.invariant-loop-class
invariant-loop-class l = Gets (OfEach (ClassStep (program_of l.self) l.end l.sign l.method)
    (take l.class-index l.class-items)) l.fn.parts l.parts
