use Rattle.std.proofs.Common.{List}
use Rattle.abs_tree.specs.Syntax.{Name}
use Rattle.abs_tree.specs.SyntaxViews.{expr_trees}
use Rattle.contract_infer.proofs.FoundReadsLemmas.{FoundSoFar}
use Rattle.contract_infer.proofs.reads.reads_of_all.Given as goal

-- what the expressions so far read was found
abbrev pub invariant-loop-expr : goal.invariant-loop-expr
invariant-loop-expr l =
    (names : List Name) → FoundSoFar (λ items. expr_trees names items) l.exprs l.expr-index l.found.items
