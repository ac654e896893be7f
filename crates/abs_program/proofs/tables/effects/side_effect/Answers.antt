use Rattle.abs_program.proofs.tables.effects.side_effect.Goals as goal

pub returns-in-Value : goal.returns-in-Value
returns-in-Value c = λ names.
    rw (c.in-Value.is, ← c.deref.ensures) (c.value_effect.ensures names c.in-Value.field-0)
