use Rattle.std.proofs.lemmas.List.Sums.{fold-append}
use Rattle.abs_profile.proofs.program.profile_offence.Goals as goal

pub returns : goal.returns
returns c =
    rw (
      fold-append,
      ← c.deref.ensures.value,
      ← c.deref-2.ensures.value,
      ← c.note_in_declarations.ensures c.args.program.now.symbols,
    ) (c.note_in_statements.ensures c.args.program.now.symbols)
