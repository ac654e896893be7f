use Rattle.std.proofs.Common.{◌≡◌, drop}
use Rattle.circularity_test.proofs.report.mark.Given as goal
use Rattle.circularity_test.specs.Reporting.{mark_all}

-- with marks at the other indices, all are marked
abbrev pub invariant-loop-index : goal.invariant-loop-index
invariant-loop-index l =
    mark_all l.marked.items (drop l.index-index l.indices) ≡ mark_all l.fn.marked.items l.indices
