use Rattle.std.proofs.Common.{◌≡◌, ℕ, List, drop, map}
use Rattle.abs_values.specs.Evaluation.{Outcome, branches_outcome}
use Rattle.abs_tree.specs.Syntax.{ExprTree}
use Rattle.abs_tree.specs.SyntaxViews.{branches as branch_trees}
use Rattle.abs_values.specs.ValueTrees.{ValueTree}
use Rattle.abs_values.specs.ValueViews.{value_tree}
use Rattle.fun_eval.proofs.patterns.first_match.Given as goal

-- the branches so far do not match, so those that are left give what all give; the variables are as before
abbrev pub invariant-loop-branch : goal.invariant-loop-branch
invariant-loop-branch l =
    (map value_tree l.bound.items ≡ map value_tree l.fn.bound.items)
    × ((give : List ValueTree → ExprTree → ℕ → Outcome) (made : ℕ)
    → branches_outcome l.symbols give (branch_trees l.symbols l.branches) (value_tree l.value) made
    ≡ branches_outcome l.symbols give (branch_trees l.symbols (drop l.branch-index l.branches)) (value_tree l.value) made)
