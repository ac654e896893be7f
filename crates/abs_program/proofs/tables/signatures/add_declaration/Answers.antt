use Rattle.abs_program.proofs.tables.signatures.add_declaration.Goals as goal

pub returns-in-Interface : goal.returns-in-Interface
returns-in-Interface c = rw (c.in-Interface.is, ← c.as_slice.ensures.value) c.add_signatures.ensures
