use Rattle.std.proofs.Common.{◌+◌, ◌*◌, List, take}
use Rattle.abs_tree.proofs.StatementLemmas.{branch_size}
use Rattle.abs_tree.specs.Syntax.{Name}
use Rattle.abs_tree.specs.SyntaxViews.{statements}
use Rattle.contract_terms.specs.Settled.{assigned_in}
use Rattle.contract_infer.specs.SettledWalk.{cleared, Does}
use Rattle.contract_infer.proofs.settled.Walk.+forget.Given as goal

-- The measure of each function is three times the depth of what it goes over, and a rank of less than three: that of a
-- function which passes all of it on is the greater.
abbrev pub decreases-forget_one : goal.decreases-forget_one
decreases-forget_one l = 3 * goal.size-forget_one l

abbrev pub decreases-forget : goal.decreases-forget
decreases-forget l = 3 * goal.size-forget l + 1

abbrev pub decreases-forget_other : goal.decreases-forget_other
decreases-forget_other l = 3 * branch_size l.branch.now + 2

-- the slots that the statements so far assign were made unsettled
abbrev pub invariant-forget-loop-stmt : goal.invariant-forget-loop-stmt
invariant-forget-loop-stmt l =
    (names : List Name) → Does (cleared (assigned_in (statements names (take l.stmt-index l.stmts)))) l.fn.self l.self
