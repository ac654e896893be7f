use Rattle.std.proofs.Common.{◌∙◌}
use Rattle.abs_program.proofs.BodyRowLemmas.{entry_made}
use Rattle.abs_program.proofs.tables.entries.entry.Goals as goal

pub returns : goal.returns
returns c names has =
    entry_made names c.args.body.now _ has
    (rw (← c.as_slice.ensures.value) (c.in_ok-index.ensures names)) c.then_some.ensures
    (c.in_ok-in_32_bits.ensures ∙ (c.len.ensures ∙ c.args.body.now.slots.ok.0)) c.in_ok-in_32_bits-2.ensures
