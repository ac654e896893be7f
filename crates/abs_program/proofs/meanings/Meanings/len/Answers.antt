use Rattle.std.proofs.Common.{◌∙◌, sym}
use Rattle.abs_program.proofs.LinkLemmas.{length-pairs_of}
use Rattle.abs_program.proofs.meanings.Meanings.len.Goals as goal

pub returns : goal.returns
returns o c =
    let entries = c.self.inside.entries in
    rw (← c.self.view_is) (c.len.ensures ∙ (entries.ok.0 ∙ sym (length-pairs_of entries.items)))
