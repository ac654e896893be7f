use Rattle.abs_program.proofs.tables.methods.add_declaration.Goals as goal

pub returns-in-Class : goal.returns-in-Class
returns-in-Class c = rw (c.in-Class.is, ← c.as_slice.ensures.value) c.add_members.ensures
