use Rattle.std.proofs.Common.{List}
use Rattle.abs_program.specs.InstructionViews.{shared_expr_trees}
use Rattle.abs_tree.specs.Syntax.{Name}
use Rattle.contract_infer.proofs.FoundReadsLemmas.{FoundSoFar}
use Rattle.contract_infer.proofs.reads.reads_of_initials.Given as goal

-- what the initial values so far read was found
abbrev pub invariant-loop-expr : goal.invariant-loop-expr
invariant-loop-expr l =
    (names : List Name) → FoundSoFar (λ items. shared_expr_trees names items) l.exprs l.expr-index l.found.items
