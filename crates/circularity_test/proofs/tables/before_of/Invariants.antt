use Rattle.abs_graph.specs.Views.{graph_of}
use Rattle.circularity_test.specs.Tables.{Gains, IsPassedBelow}
use Rattle.circularity_test.proofs.tables.before_of.Given as goal

-- the pairs so far were added
abbrev pub invariant-loop-index : goal.invariant-loop-index
invariant-loop-index l = Gains (IsPassedBelow l.entries (graph_of l.exits) l.index) (graph_of l.initial.before.items)
    (graph_of l.before.items)
