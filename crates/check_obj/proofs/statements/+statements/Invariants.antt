use Rattle.std.proofs.Common.{◌+◌, ◌*◌, max}
use denote.Param.Weighed.{most}
use Rattle.abs_tree.specs.declared.syntax.statement.Stmt.{size-Stmt}
use Rattle.check_obj.proofs.BlockLemmas.{BlockSoFar}
use Rattle.check_obj.proofs.statements.+statements.Given as goal
use Rattle.abs_tree.proofs.StatementLemmas.{branch_size}

-- The measure of each function is four times the depth of what it checks, and a rank of less than four: that of a
-- function which passes all of it on is the greater.
abbrev pub decreases-other_statement : goal.decreases-other_statement
decreases-other_statement l = 4 * goal.size-other_statement l

abbrev pub decreases-statement : goal.decreases-statement
decreases-statement l = 4 * goal.size-statement l + 1

abbrev pub decreases-statements : goal.decreases-statements
decreases-statements l = 4 * goal.size-statements l + 2

abbrev pub decreases-if_else : goal.decreases-if_else
decreases-if_else l = 4 * max (most (λ x. size-Stmt x) l.first.now) (branch_size l.second.now) + 3

abbrev pub decreases-while_do : goal.decreases-while_do
decreases-while_do l = 4 * most (λ x. size-Stmt x) l.body.now + 3

abbrev pub invariant-statements-loop-index : goal.invariant-statements-loop-index
invariant-statements-loop-index l =
    BlockSoFar l.fn.checker l.fn.is_last l.stmts l.index l.checker l.shown.items
