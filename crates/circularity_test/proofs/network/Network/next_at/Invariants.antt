use Rattle.std.proofs.Common.{take}
use Rattle.circularity_test.specs.Distances.{distance_of}
use Rattle.circularity_test.specs.Routes.{IsFirst}
use Rattle.circularity_test.proofs.NearLemmas.{OneOf}
use Rattle.circularity_test.proofs.NextLemmas.{IsNext}
use Rattle.circularity_test.proofs.network.Network.next_at.Given as goal

-- the least one of the pairs so far
abbrev pub invariant-loop-index : goal.invariant-loop-index
invariant-loop-index l =
    IsFirst (OneOf (IsNext l.self (distance_of l.far) l.left) (take l.index-index l.index-items)) l.found
