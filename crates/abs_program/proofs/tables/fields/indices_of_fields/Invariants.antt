use Rattle.abs_program.proofs.FieldLemmas.{IndicesSoFar}
use Rattle.abs_program.proofs.tables.fields.indices_of_fields.Given as goal

-- the fields so far were found
abbrev pub invariant-loop-index : goal.invariant-loop-index
invariant-loop-index l = IndicesSoFar l.members l.index l.indices.items
