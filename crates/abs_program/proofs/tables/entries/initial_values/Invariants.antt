use Rattle.abs_program.proofs.ClassEntryLemmas.{InitialsSoFar}
use Rattle.abs_program.proofs.tables.entries.initial_values.Given as goal

-- the initial values so far were found
abbrev pub invariant-loop-member : goal.invariant-loop-member
invariant-loop-member l = InitialsSoFar l.members l.member-index l.values.items
