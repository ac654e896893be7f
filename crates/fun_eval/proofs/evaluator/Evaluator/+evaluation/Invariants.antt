use Rattle.std.proofs.Common.{◌+◌, ◌*◌, drop}
use Rattle.abs_values.specs.Evaluation.{operators_outcome, outcomes_of}
use Rattle.abs_tree.specs.SyntaxViews.{operand_trees, expr_tree, expr_trees}
use Rattle.fun_eval.specs.Evaluating.{gives_in, names_in, outcome_in}
use Rattle.fun_eval.proofs.SoFarLemmas.{OperatorsSoFar}
use Rattle.fun_eval.proofs.ValueLemmas.{ArgumentsSoFar, ValuesSoFar}
use Rattle.fun_eval.proofs.evaluator.Evaluator.+evaluation.Given as goal

-- The measure of each function is five times the levels that are left, and a rank of less than five: that of a function
-- which passes all of them on is the greater.
abbrev pub decreases-evaluate : goal.decreases-evaluate
decreases-evaluate l = 5 * l.left

abbrev pub decreases-part : goal.decreases-part
decreases-part l = 5 * l.left + 1

abbrev pub decreases-operators : goal.decreases-operators
decreases-operators l = 5 * l.left + 4

abbrev pub decreases-operand : goal.decreases-operand
decreases-operand l = 5 * l.left + 3

abbrev pub decreases-logical : goal.decreases-logical
decreases-logical l = 5 * l.left + 1

abbrev pub decreases-prefixed : goal.decreases-prefixed
decreases-prefixed l = 5 * l.left + 4

abbrev pub decreases-if_else : goal.decreases-if_else
decreases-if_else l = 5 * l.left + 4

abbrev pub decreases-let_in : goal.decreases-let_in
decreases-let_in l = 5 * l.left + 4

abbrev pub decreases-case : goal.decreases-case
decreases-case l = 5 * l.left + 4

abbrev pub decreases-chosen : goal.decreases-chosen
decreases-chosen l = 5 * l.left + 2

abbrev pub decreases-apply : goal.decreases-apply
decreases-apply l = 5 * l.left + 4

abbrev pub decreases-add_arguments : goal.decreases-add_arguments
decreases-add_arguments l = 5 * l.left + 2

abbrev pub decreases-application : goal.decreases-application
decreases-application l = 5 * l.left + 2

abbrev pub decreases-body : goal.decreases-body
decreases-body l = 5 * l.left + 1

abbrev pub decreases-build : goal.decreases-build
decreases-build l = 5 * l.left + 4

abbrev pub decreases-values : goal.decreases-values
decreases-values l = 5 * l.left + 2

abbrev pub invariant-operators-loop-operand : goal.invariant-operators-loop-operand
invariant-operators-loop-operand l =
    OperatorsSoFar (operators_outcome (names_in l.fn.self) (gives_in l.fn.self l.frame l.left)
    (outcome_in l.fn.self l.frame l.left (expr_tree (names_in l.fn.self) l.first)) (operand_trees (names_in l.fn.self) l.operands))
    l.frame l.left l.so_far (drop l.operand-index l.operands) l.fn.self l.self

abbrev pub invariant-add_arguments-loop-argument : goal.invariant-add_arguments-loop-argument
invariant-add_arguments-loop-argument l =
    ArgumentsSoFar (outcomes_of (gives_in l.fn.self l.frame l.left) (expr_trees (names_in l.fn.self) l.arguments)
    l.fn.self.applications) l.frame l.left (drop l.argument-index l.arguments) l.fn.self l.self

abbrev pub invariant-values-loop-expr : goal.invariant-values-loop-expr
invariant-values-loop-expr l =
    ValuesSoFar (outcomes_of (gives_in l.fn.self l.frame l.left) (expr_trees (names_in l.fn.self) l.exprs)
    l.fn.self.applications) l.frame l.left l.values.items (drop l.expr-index l.exprs) l.fn.self l.self
