use Rattle.std.proofs.Common.{◌+◌, ◌*◌, max}
use denote.Param.Weighed.{most}
use Rattle.abs_tree.specs.declared.syntax.expression.Branch.{size-Branch}
use Rattle.abs_tree.specs.declared.syntax.expression.Expr.{size-Expr}
use Rattle.abs_tree.specs.declared.syntax.expression.Operand.{size-Operand}
use Rattle.check_fun.specs.Contexts.{items_of}
use Rattle.check_fun.proofs.SoFarLemmas.{ExprsSoFar, OperandsSoFar, BranchesSoFar}
use Rattle.check_fun.proofs.checker.Checker.+expressions.Given as goal

-- The measure of each function is four times the depth of what it checks, and a rank of less than four: that of a
-- function which passes all of it on is the greater.
abbrev pub decreases-expression : goal.decreases-expression
decreases-expression l = 4 * goal.size-expression l + 1

abbrev pub decreases-primary : goal.decreases-primary
decreases-primary l = 4 * goal.size-primary l

abbrev pub decreases-let_in : goal.decreases-let_in
decreases-let_in l = 4 * max (size-Expr l.value.now) (size-Expr l.body.now) + 3

abbrev pub decreases-let_body : goal.decreases-let_body
decreases-let_body l = 4 * goal.size-let_body l + 2

abbrev pub decreases-if_else : goal.decreases-if_else
decreases-if_else l =
    4 * max (size-Expr l.condition.now) (max (size-Expr l.first.now) (size-Expr l.second.now)) + 3

abbrev pub decreases-prefixed : goal.decreases-prefixed
decreases-prefixed l = 4 * goal.size-prefixed l + 3

abbrev pub decreases-operators : goal.decreases-operators
decreases-operators l = 4 * max (size-Expr l.first.now) (most (λ x. size-Operand x) l.operands.now) + 3

abbrev pub decreases-case : goal.decreases-case
decreases-case l = 4 * max (size-Expr l.subject.now) (most (λ x. size-Branch x) l.branches.now) + 3

abbrev pub decreases-own_call : goal.decreases-own_call
decreases-own_call l = 4 * goal.size-own_call l + 3

abbrev pub decreases-apply : goal.decreases-apply
decreases-apply l = 4 * goal.size-apply l + 3

abbrev pub decreases-build : goal.decreases-build
decreases-build l = 4 * goal.size-build l + 3

abbrev pub decreases-arguments : goal.decreases-arguments
decreases-arguments l = 4 * goal.size-arguments l + 2

abbrev pub decreases-operands : goal.decreases-operands
decreases-operands l = 4 * goal.size-operands l

abbrev pub decreases-branches : goal.decreases-branches
decreases-branches l = 4 * goal.size-branches l + 1

abbrev pub decreases-branch : goal.decreases-branch
decreases-branch l = 4 * goal.size-branch l

abbrev pub invariant-arguments-loop-expr : goal.invariant-arguments-loop-expr
invariant-arguments-loop-expr l = ExprsSoFar l.fn.self l.exprs l.expr-index (items_of l.found) l.self

abbrev pub invariant-operands-loop-operand : goal.invariant-operands-loop-operand
invariant-operands-loop-operand l = OperandsSoFar l.fn.self l.operands l.operand-index (items_of l.found) l.self

abbrev pub invariant-branches-loop-branch : goal.invariant-branches-loop-branch
invariant-branches-loop-branch l =
    BranchesSoFar l.fn.subject l.fn.self l.branches l.branch-index (items_of l.found) l.self
