use Rattle.std.proofs.Common.{◌+◌, ◌*◌, List, max}
use denote.Param.Weighed.{most}
use Rattle.abs_tree.specs.Syntax.{Name}
use Rattle.abs_tree.specs.SyntaxViews.{expr_trees, operand_trees, branches}
use Rattle.abs_tree.specs.declared.syntax.expression.Branch.{size-Branch}
use Rattle.abs_tree.specs.declared.syntax.expression.Expr.{size-Expr}
use Rattle.abs_tree.specs.declared.syntax.expression.Operand.{size-Operand}
use Rattle.abs_values.specs.References.{ReadsInAny, ReadsInOperand, ReadsInBranch}
use Rattle.contract_infer.proofs.CollectingLemmas.{NotedSoFar}
use Rattle.contract_infer.proofs.reads.Reader.+reading.Given as goal

-- The measure of each function is twice the depth of what it goes over, and one more for a function which passes all of
-- it on.
abbrev pub decreases-expression : goal.decreases-expression
decreases-expression l = 2 * goal.size-expression l

abbrev pub decreases-both : goal.decreases-both
decreases-both l = 2 * max (size-Expr l.one.now) (size-Expr l.other.now) + 1

abbrev pub decreases-expressions : goal.decreases-expressions
decreases-expressions l = 2 * goal.size-expressions l + 1

abbrev pub decreases-operators : goal.decreases-operators
decreases-operators l = 2 * max (size-Expr l.first.now) (most (λ x. size-Operand x) l.operands.now) + 1

abbrev pub decreases-case : goal.decreases-case
decreases-case l = 2 * max (size-Expr l.subject.now) (most (λ x. size-Branch x) l.branches.now) + 1

-- the expressions so far were walked
abbrev pub invariant-expressions-loop-expr : goal.invariant-expressions-loop-expr
invariant-expressions-loop-expr l =
    (names : List Name) → NotedSoFar (λ items location. ReadsInAny location (expr_trees names items)) l.exprs
    l.expr-index l.fn.self l.self

-- the operands so far were
abbrev pub invariant-operators-loop-operand : goal.invariant-operators-loop-operand
invariant-operators-loop-operand l =
    (names : List Name) → NotedSoFar (λ items location. ReadsInOperand location (operand_trees names items)) l.operands
    l.operand-index l.initial.self l.self

-- the branches so far were
abbrev pub invariant-case-loop-branch : goal.invariant-case-loop-branch
invariant-case-loop-branch l =
    (names : List Name) → NotedSoFar (λ items location. ReadsInBranch location (branches names items)) l.branches
    l.branch-index l.initial.self l.self
