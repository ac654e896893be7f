use Rattle.abs_program.proofs.FieldLemmas.{RowsSoFar}
use Rattle.abs_program.proofs.tables.fields.Fields.new.Given as goal

-- the declarations so far have their rows
abbrev pub invariant-loop-declaration : goal.invariant-loop-declaration
invariant-loop-declaration l = RowsSoFar l.declarations l.declaration-index l.rows.items
