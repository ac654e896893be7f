use Rattle.std.proofs.lemmas.Bool.{false≢true}
use Rattle.abs_types.proofs.TableLemmas.{among_entries, entry_parameter}
use Rattle.abs_types.proofs.table.TypeTable.has_parameter.Goals as goal

pub returns-in-Some : goal.returns-in-Some
returns-in-Some c =
    entry_parameter c.args.self.now c.args.index (c.in-Some.field-0-0.now, c.in-Some.has_parameter.now)
    c.in-Some.ensures.entry

pub returns-in-None : goal.returns-in-None
returns-in-None c =
    absurd (false≢true (c.in-None.ensures.found.1 (among_entries c.args.self.now c.args.index c.requires)))
