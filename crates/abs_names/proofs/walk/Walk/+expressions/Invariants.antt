use Rattle.std.proofs.Common.{◌+◌, ◌*◌, max}
use denote.Param.Weighed.{most}
use Rattle.abs_tree.specs.declared.syntax.expression.Expr.{size-Expr}
use Rattle.abs_tree.specs.declared.syntax.expression.Operand.{size-Operand}
use Rattle.abs_tree.specs.declared.syntax.expression.Branch.{size-Branch}
use Rattle.abs_names.proofs.RowLemmas.{ExprsSoFar, OperandsSoFar, BranchesSoFar}
use Rattle.abs_names.proofs.walk.Walk.+expressions.Given as goal

-- The measure of each function is four times the depth of what it resolves, and a rank of less than four: that of a
-- function which passes all of it on is the greater.
abbrev pub decreases-expression : goal.decreases-expression
decreases-expression l = 4 * goal.size-expression l + 1

abbrev pub decreases-primary : goal.decreases-primary
decreases-primary l = 4 * goal.size-primary l

abbrev pub decreases-boxed : goal.decreases-boxed
decreases-boxed l = 4 * goal.size-boxed l + 2

abbrev pub decreases-let_in : goal.decreases-let_in
decreases-let_in l = 4 * max (size-Expr l.value.now) (size-Expr l.body.now) + 3

abbrev pub decreases-if_else : goal.decreases-if_else
decreases-if_else l =
    4 * max (size-Expr l.condition.now) (max (size-Expr l.first.now) (size-Expr l.second.now)) + 3

abbrev pub decreases-operators : goal.decreases-operators
decreases-operators l = 4 * max (size-Expr l.first.now) (most (λ x. size-Operand x) l.operands.now) + 3

abbrev pub decreases-case : goal.decreases-case
decreases-case l = 4 * max (size-Expr l.subject.now) (most (λ x. size-Branch x) l.branches.now) + 3

abbrev pub decreases-own_call : goal.decreases-own_call
decreases-own_call l = 4 * goal.size-own_call l + 3

abbrev pub decreases-apply : goal.decreases-apply
decreases-apply l = 4 * goal.size-apply l + 3

abbrev pub decreases-build : goal.decreases-build
decreases-build l = 4 * goal.size-build l + 3

abbrev pub decreases-expressions : goal.decreases-expressions
decreases-expressions l = 4 * goal.size-expressions l + 2

abbrev pub decreases-operands : goal.decreases-operands
decreases-operands l = 4 * goal.size-operands l

abbrev pub decreases-branches : goal.decreases-branches
decreases-branches l = 4 * goal.size-branches l + 1

abbrev pub decreases-branch : goal.decreases-branch
decreases-branch l = 4 * goal.size-branch l

abbrev pub invariant-expressions-loop-expr : goal.invariant-expressions-loop-expr
invariant-expressions-loop-expr l =
    ExprsSoFar l.fn.self.scope l.fn.self.first l.exprs l.expr-index l.found.items l.self.scope l.self.first

abbrev pub invariant-operands-loop-operand : goal.invariant-operands-loop-operand
invariant-operands-loop-operand l =
    OperandsSoFar l.fn.self.scope l.fn.self.first l.operands l.operand-index l.found.items l.self.scope l.self.first

abbrev pub invariant-branches-loop-branch : goal.invariant-branches-loop-branch
invariant-branches-loop-branch l =
    BranchesSoFar l.fn.self.scope l.fn.self.first l.branches l.branch-index l.found.items l.self.scope l.self.first
