use Rattle.circularity_test.proofs.StepLemmas.{OwnSoFar}
use Rattle.circularity_test.proofs.parts.Parts.enter.Given as goal

-- the edges of the pairs so far are there
abbrev pub invariant-loop-index : goal.invariant-loop-index
invariant-loop-index l = OwnSoFar l.self l.pairs l.index
