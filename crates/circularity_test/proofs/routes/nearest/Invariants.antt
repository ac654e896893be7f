use Rattle.std.proofs.Common.{◌≡◌, Some, take}
use Rattle.circularity_test.specs.Distances.{distance_of}
use Rattle.circularity_test.specs.Routes.{IsFirst}
use Rattle.circularity_test.proofs.NearLemmas.{OneOf}
use Rattle.circularity_test.proofs.routes.nearest.Given as goal

-- the least distance of the nodes so far
abbrev pub invariant-loop-node : goal.invariant-loop-node
invariant-loop-node l =
    IsFirst (OneOf (λ node distance. distance_of l.far node ≡ Some distance) (take l.node-index l.nodes)) l.found
