use Rattle.abs_tree.proofs.StatementCountLemmas.{CountedSoFar}
use Rattle.abs_program.proofs.tables.indices.+indices.Given as goal

-- the indices of the statements so far were passed
abbrev pub invariant-after_statements-loop-statement : goal.invariant-after_statements-loop-statement
invariant-after_statements-loop-statement l = CountedSoFar l.statements l.index l.statement-index l.next
