use Rattle.abs_graph.specs.Views.{graph_of}
use Rattle.circularity_test.specs.Tables.{Gains, IsWaiting}
use Rattle.circularity_test.proofs.tables.members_of.Given as goal

-- the pairs so far were added
abbrev pub invariant-loop-index : goal.invariant-loop-index
invariant-loop-index l = Gains (IsWaiting l.entries l.index) (graph_of l.initial.members.items)
    (graph_of l.members.items)
