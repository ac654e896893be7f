use Rattle.std.proofs.Common.{take}
use Rattle.circularity_test.specs.Distances.{Spreads}
use Rattle.circularity_test.proofs.distances.Distances.spread.Given as goal

-- the distance was given to the nodes so far
abbrev pub invariant-loop-node : goal.invariant-loop-node
invariant-loop-node l =
    Spreads (take l.node-index l.nodes) l.distance l.initial.self.marks.entries l.self.marks.entries
