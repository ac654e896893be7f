use Rattle.std.proofs.lemmas.Bool.{false≢true}
use Rattle.abs_types.proofs.TableLemmas.{among_entries, entry_parts, entry_type}
use Rattle.abs_types.proofs.table.TypeTable.shape.Goals as goal

pub returns-in-Some-clause-is : goal.returns-in-Some-clause-is
returns-in-Some-clause-is c =
    entry_type c.args.self.now c.args.index (c.in-Some.shape.now, c.in-Some.field-0-1.now) c.in-Some.ensures.entry

pub returns-in-Some-clause-parts : goal.returns-in-Some-clause-parts
returns-in-Some-clause-parts c =
    entry_parts c.args.self.now c.args.index.0 (c.in-Some.shape.now, c.in-Some.field-0-1.now) c.in-Some.ensures.entry

pub returns-in-None-clause-is : goal.returns-in-None-clause-is
returns-in-None-clause-is c =
    absurd (false≢true (c.in-None.ensures.found.1 (among_entries c.args.self.now c.args.index c.requires)))
