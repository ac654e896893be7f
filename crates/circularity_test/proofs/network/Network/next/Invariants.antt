use Rattle.std.proofs.Common.{take}
use Rattle.circularity_test.specs.Distances.{distance_of}
use Rattle.circularity_test.specs.Routes.{IsFirst, StepsAt}
use Rattle.circularity_test.proofs.NearLemmas.{OneOf}
use Rattle.circularity_test.proofs.network.Network.next.Given as goal

-- the least one of the pairs at the nodes so far
abbrev pub invariant-loop-number : goal.invariant-loop-number
invariant-loop-number l =
    IsFirst (OneOf (StepsAt l.self (distance_of l.far) l.left) (take l.number-index l.number-items)) l.found
