use Rattle.std.proofs.Common.{◌≡◌, ℕ, Contains, Some, take}
use Rattle.circularity_test.specs.Distances.{distance_of}
use Rattle.circularity_test.proofs.routes.is_near.Given as goal

-- none of the nodes so far has this distance
abbrev pub invariant-loop-node : goal.invariant-loop-node
invariant-loop-node l = (node : ℕ) → Contains (take l.node-index l.nodes) node
    → distance_of l.far node ≡ Some l.distance → ⊥
