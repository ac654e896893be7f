use Rattle.std.proofs.lemmas.List.Sums.{fold-append}
use Rattle.abs_profile.proofs.declarations.note_in_declaration.Goals as goal

pub returns-in-Class : goal.returns-in-Class
returns-in-Class c names =
    rw (
      c.in-Class.is,
      fold-append,
      ← c.deref-in-Class.ensures.value,
      ← c.deref-in-Class-2.ensures.value,
      ← c.note_in_params.ensures names,
    ) (c.note_in_members.ensures names)
