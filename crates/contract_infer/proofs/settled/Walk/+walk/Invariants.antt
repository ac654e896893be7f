use Rattle.std.proofs.Common.{◌+◌, ◌*◌, List, max, take}
use denote.Param.Weighed.{most}
use Rattle.abs_tree.proofs.StatementLemmas.{branch_size}
use Rattle.abs_tree.specs.Syntax.{Name}
use Rattle.abs_tree.specs.SyntaxViews.{statements}
use Rattle.abs_tree.specs.declared.syntax.statement.Stmt.{size-Stmt}
use Rattle.contract_infer.specs.SettledWalk.{passed, Does}
use Rattle.contract_infer.proofs.settled.Walk.+walk.Given as goal

-- The measure of each function is four times the depth of what it goes over, and a rank of less than four: that of a
-- function which passes all of it on is the greater.
abbrev pub decreases-statement : goal.decreases-statement
decreases-statement l = 4 * size-Stmt l.stmt.now

abbrev pub decreases-statements : goal.decreases-statements
decreases-statements l = 4 * most (λ x. size-Stmt x) l.stmts.now + 1

abbrev pub decreases-other : goal.decreases-other
decreases-other l = 4 * branch_size l.branch.now + 2

abbrev pub decreases-branches : goal.decreases-branches
decreases-branches l = 4 * max (most (λ x. size-Stmt x) l.first.now) (branch_size l.second.now) + 3

abbrev pub decreases-body : goal.decreases-body
decreases-body l = 4 * most (λ x. size-Stmt x) l.body.now + 2

-- the statements so far were passed
abbrev pub invariant-statements-loop-stmt : goal.invariant-statements-loop-stmt
invariant-statements-loop-stmt l =
    (names : List Name) → Does (passed (statements names (take l.stmt-index l.stmts))) l.fn.self l.self
