use Rattle.std.proofs.Common.{ℕ, take}
use Rattle.std.specs.List.{AllZip}
use Rattle.abs_graph.specs.Views.{graph_of}
use Rattle.circularity_test.specs.Network.{AreIn, LeadsAs, nodes_in, program_of}
use Rattle.circularity_test.proofs.network.Ways.exits.Given as goal
use Rattle.contract_terms.specs.declared.pair.Pair.{Pair}

-- the pairs so far have their exits
abbrev pub invariant-loop-index : goal.invariant-loop-index
invariant-loop-index l = (component : Pair → ℕ) → AreIn component l.pairs
    → AllZip (LeadsAs (program_of l.self) (nodes_in l.self) component) (take l.index l.pairs.pairs)
    (graph_of l.exits.items)
