use Rattle.abs_program.proofs.tables.effects.side_exprs.Goals as goal

pub returns-in-Value : goal.returns-in-Value
returns-in-Value c = λ names. rw c.in-Value.is (c.value_exprs.ensures names c.in-Value.field-0)
