use Rattle.abs_program.proofs.ClassEntryLemmas.{is_unit-data}
use Rattle.abs_program.proofs.tables.entries.is_unit.Goals as goal

pub returns-then-is_empty : goal.returns-then-is_empty
returns-then-is_empty c =
    let form = c.in-Data in
    rw (
      is_unit-data c.args.symbols.now c.args.term.now form.place form.name form.arguments form.is,
      ← form.arguments.ok.0,
      ← c.if-is_empty.ensures,
    ) (rw (c.name.ensures, c.as_slice.ensures) at c.eq.ensures)

pub returns-else-is_empty : goal.returns-else-is_empty
returns-else-is_empty c =
    let form = c.in-Data in
    rw (
      is_unit-data c.args.symbols.now c.args.term.now form.place form.name form.arguments form.is,
      ← form.arguments.ok.0,
      ← c.if-is_empty.ensures,
    ) c.if-is_empty.false
