use Rattle.circularity_test.proofs.StepLemmas.{FollowedSoFar}
use Rattle.circularity_test.specs.Steps.{Awaits, program_of}
use Rattle.circularity_test.proofs.steps.Steps.follow_all.Given as goal

-- what leads on from the parts so far is there
abbrev pub invariant-loop-number : goal.invariant-loop-number
invariant-loop-number l = FollowedSoFar (program_of l.self) (Awaits l.self) l.fn.parts l.parts l.number
