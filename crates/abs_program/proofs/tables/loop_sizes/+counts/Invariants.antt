use Rattle.std.proofs.Common.{◌+◌, ◌*◌, List}
use Rattle.abs_program.proofs.CountLemmas.{CountedSoFar}
use Rattle.abs_tree.proofs.StatementLemmas.{branch_size}
use Rattle.abs_program.specs.MadeInstructions.{loop_sizes}
use Rattle.abs_tree.specs.Syntax.{Name}
use Rattle.abs_tree.specs.SyntaxSizes.{statement_count}
use Rattle.abs_tree.specs.SyntaxViews.{statements}
use Rattle.abs_program.proofs.tables.loop_sizes.+counts.Given as goal

-- The measure of each function is three times the depth of what it counts, and a rank of less than three: that of a
-- function which passes all of it on is the greater.
abbrev pub decreases-count_statement : goal.decreases-count_statement
decreases-count_statement l = 3 * goal.size-count_statement l

abbrev pub decreases-count_statements : goal.decreases-count_statements
decreases-count_statements l = 3 * goal.size-count_statements l + 1

abbrev pub decreases-count_other : goal.decreases-count_other
decreases-count_other l = 3 * branch_size l.other.now + 2

-- the statements so far were counted
abbrev pub invariant-count_statements-loop-stmt : goal.invariant-count_statements-loop-stmt
invariant-count_statements-loop-stmt l =
    (names : List Name) → CountedSoFar (λ items. statement_count (statements names items))
    (λ items. loop_sizes (statements names items)) l.stmts l.stmt-index l.count l.initial.loops.items l.loops.items
