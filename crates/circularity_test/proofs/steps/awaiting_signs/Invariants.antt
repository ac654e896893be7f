use Rattle.std.proofs.Common.{take}
use Rattle.circularity_test.specs.Steps.{AwaitingSigns}
use Rattle.circularity_test.proofs.steps.awaiting_signs.Given as goal

-- the set has the signs of the pairs so far
abbrev pub invariant-loop-index : goal.invariant-loop-index
invariant-loop-index l = AwaitingSigns (take l.index l.pairs) l.signs.keys
