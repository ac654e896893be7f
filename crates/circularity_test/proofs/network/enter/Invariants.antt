use Rattle.std.proofs.Common.{ℕ, take}
use Rattle.circularity_test.specs.Network.{AreIn, AreNumbers, node_of}
use Rattle.circularity_test.proofs.network.enter.Given as goal
use Rattle.contract_terms.specs.declared.pair.Pair.{Pair}

-- the pairs so far have the numbers of their nodes
abbrev pub invariant-loop-index : goal.invariant-loop-index
invariant-loop-index l = (component : Pair → ℕ) → AreIn component l.pairs
    → AreNumbers (node_of component) (take l.index l.pairs.pairs) l.nodes.keys l.entries.items
