use Rattle.abs_types.proofs.MemoryLemmas.{remembered_found, remembered_among}
use Rattle.abs_types.specs.TypeTables.{types_in, declarations_of}
use Rattle.abs_types.proofs.table.TypeTable.remembered.Goals as goal

pub returns-in-Some-clause-is : goal.returns-in-Some-clause-is
unfolding types_in
returns-in-Some-clause-is c =
    let table = c.args.self.now in
    remembered_found (declarations_of table) (types_in table) table.joins.entries
    (record { one = c.args.one; other = c.args.other }) c.in-Some.found.now c.in-Some.ensures.value table.are_remembered

pub returns-in-Some-clause-among : goal.returns-in-Some-clause-among
unfolding types_in
returns-in-Some-clause-among c =
    let table = c.args.self.now in
    remembered_among (declarations_of table) (types_in table) table.joins.entries
    (record { one = c.args.one; other = c.args.other }) c.in-Some.found.now c.in-Some.ensures.value table.are_remembered
