use Rattle.std.proofs.Common.{◌+◌, ◌*◌, List, max}
use denote.Param.Weighed.{most}
use Rattle.abs_tree.specs.Syntax.{Name}
use Rattle.abs_tree.specs.SyntaxViews.{expr_trees, operand_trees, branches}
use Rattle.abs_tree.specs.declared.syntax.expression.Branch.{size-Branch}
use Rattle.abs_tree.specs.declared.syntax.expression.Expr.{size-Expr}
use Rattle.abs_tree.specs.declared.syntax.expression.Operand.{size-Operand}
use Rattle.abs_profile.proofs.NotedLemmas.{NotedSoFar}
use Rattle.abs_profile.specs.Profile.{exprs_offences, operands_offences, branches_offences}
use Rattle.abs_profile.proofs.expressions.+expressions.Given as goal

-- The measure of each function is twice the depth of what it goes over, and one more for a function which passes all of
-- it on.
abbrev pub decreases-note_in_expression : goal.decreases-note_in_expression
decreases-note_in_expression l = 2 * goal.size-note_in_expression l

abbrev pub decreases-note_in_both : goal.decreases-note_in_both
decreases-note_in_both l = 2 * max (size-Expr l.one.now) (size-Expr l.other.now) + 1

abbrev pub decreases-note_in_expressions : goal.decreases-note_in_expressions
decreases-note_in_expressions l = 2 * goal.size-note_in_expressions l + 1

abbrev pub decreases-note_in_operators : goal.decreases-note_in_operators
decreases-note_in_operators l = 2 * max (size-Expr l.left.now) (most (λ x. size-Operand x) l.operands.now) + 1

abbrev pub decreases-note_in_case : goal.decreases-note_in_case
decreases-note_in_case l = 2 * max (size-Expr l.subject.now) (most (λ x. size-Branch x) l.branches.now) + 1

-- the offences of the expressions so far are noted
abbrev pub invariant-note_in_expressions-loop-expr : goal.invariant-note_in_expressions-loop-expr
invariant-note_in_expressions-loop-expr l =
    (names : List Name)
    → NotedSoFar (λ items. exprs_offences (expr_trees names items)) l.exprs l.expr-index l.fn.first l.first

-- those of the operands so far are
abbrev pub invariant-note_in_operators-loop-operand : goal.invariant-note_in_operators-loop-operand
invariant-note_in_operators-loop-operand l =
    (names : List Name) → NotedSoFar (λ items. operands_offences (operand_trees names items)) l.operands l.operand-index
    l.initial.first l.first

-- those of the branches so far are
abbrev pub invariant-note_in_case-loop-branch : goal.invariant-note_in_case-loop-branch
invariant-note_in_case-loop-branch l =
    (names : List Name)
    → NotedSoFar (λ items. branches_offences (branches names items)) l.branches l.branch-index l.initial.first l.first
