use Rattle.std.proofs.Common.{sym, arith}
use Rattle.abs_values.proofs.ComparisonLemmas.{other_nodes, other_length}
use Rattle.abs_values.proofs.comparison.+comparison.Goals as goal

pub parts_equal-returns-then-nodes : goal.parts_equal-returns-then-nodes
parts_equal-returns-then-nodes t c =
    sym (other_nodes c.args.left.now c.args.right.now (λ same. c.if-nodes.true (omega (arith, same))))

pub parts_equal-returns-then-values-others : goal.parts_equal-returns-then-values-others
parts_equal-returns-then-values-others t c =
    rw (← c.as_slice-values.ensures, ← c.as_slice-others.ensures)
    (sym (other_length c.as_slice-values.result.now c.as_slice-others.result.now c.if-values-others.true))
