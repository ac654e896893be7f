use Rattle.std.proofs.Common.{◌≡◌, ◌+◌, ◌*◌, List, ◌++◌, max}
use denote.Param.Weighed.{most}
use Rattle.abs_tree.proofs.StatementLemmas.{branch_size}
use Rattle.abs_program.specs.MadeInstructions.{MadeStatements}
use Rattle.abs_tree.specs.Syntax.{Name}
use Rattle.abs_tree.specs.SyntaxViews.{statements}
use Rattle.abs_tree.specs.declared.syntax.statement.Stmt.{Stmt, size-Stmt}
use Rattle.abs_program.proofs.tables.instructions.Maker.+made.Given as goal

-- The measure of each function is four times the depth of what it makes the instructions of, and a rank of less than
-- four: that of a function which passes all of it on is the greater.
abbrev pub decreases-add_statement : goal.decreases-add_statement
decreases-add_statement l = 4 * size-Stmt l.stmt.now

abbrev pub decreases-add_statements : goal.decreases-add_statements
decreases-add_statements l = 4 * most (λ x. size-Stmt x) l.stmts.now + 1

abbrev pub decreases-add_other : goal.decreases-add_other
decreases-add_other l = 4 * branch_size l.other.now + 2

abbrev pub decreases-add_branches : goal.decreases-add_branches
decreases-add_branches l = 4 * max (most (λ x. size-Stmt x) l.first.now) (branch_size l.second.now) + 3

abbrev pub decreases-add_body : goal.decreases-add_body
decreases-add_body l = 4 * most (λ x. size-Stmt x) l.body.now + 2

-- the statements that are left are followed by some whose instructions were made
abbrev pub invariant-add_statements-loop-stmt : goal.invariant-add_statements-loop-stmt
invariant-add_statements-loop-stmt l =
    (goal.iterator-add_statements-loop-stmt).can_next l.stmt-iterator
    × (goal.iterator-add_statements-loop-stmt).is_finite l.stmt-iterator
    × ((done : List Stmt) × (l.stmts ≡ l.stmt-iterator.iter.rest.now ++ done)
    × ((names : List Name) → MadeStatements names (statements names done) l.fn.after l.first l.fn.self l.self))
