use Rattle.std.proofs.Common.{take}
use Rattle.circularity_test.specs.Network.{AreNumbers, group_of}
use Rattle.circularity_test.proofs.network.Groups.enter.Given as goal

-- the nodes so far have the numbers of their groups
abbrev pub invariant-loop-node : goal.invariant-loop-node
invariant-loop-node l = AreNumbers group_of (take l.node-index l.nodes) l.groups.keys l.numbers.items
