use Rattle.std.proofs.Common.{◌≡◌, Contains, take}
use Rattle.abs_graph.specs.Views.{graph_of}
use Rattle.circularity_test.specs.Tables.{Gains}
use Rattle.circularity_test.proofs.tables.add_to_each.Given as goal

-- the value was added to the rows so far
abbrev pub invariant-loop-number : goal.invariant-loop-number
invariant-loop-number l = Gains (λ number added. Contains (take l.number-index l.numbers) number × (l.value ≡ added))
    (graph_of l.initial.rows.items) (graph_of l.rows.items)
