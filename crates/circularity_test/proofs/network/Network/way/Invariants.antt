use Rattle.circularity_test.specs.Distances.{distance_of}
use Rattle.circularity_test.proofs.RouteLemmas.{Going}
use Rattle.circularity_test.proofs.network.Network.way.Given as goal

-- what follows from here on follows what is there, and how far the last pair is from the goal
abbrev pub invariant-loop-left : goal.invariant-loop-left
invariant-loop-left l = Going l.self (distance_of l.far) l.first l.distance l.chain.items l.last l.left

abbrev pub decreases-loop-left : goal.decreases-loop-left
decreases-loop-left l = l.left
