use Rattle.std.proofs.Common.{refl}
use Rattle.abs_types.proofs.AddLemmas.{kept_same}
use Rattle.abs_types.proofs.MemoryLemmas.{remembered_inserted}
use Rattle.abs_types.specs.TypeTables.{types_in, declarations_of}
use Rattle.abs_types.proofs.table.TypeTable.remember.Goals as goal

pub invariant_of-self : goal.invariant_of-self
unfolding types_in
invariant_of-self c =
    let table = c.args.self.now in
    record {
      few_types = table.few_types;
      are_formed = table.are_formed;
      parameters_are = table.parameters_are;
      are_remembered = remembered_inserted c.insert.result (declarations_of table) (types_in table) table.joins.entries
          c.insert.new.self.entries (record { one = c.args.one; other = c.args.other }) c.args.found
          c.insert.ensures.entries c.insert.ensures.err (record {
            one = c.requires.one;
            other = c.requires.other;
            joined = c.requires.among;
            is_join = c.requires.is;
          }) table.are_remembered;
    }

pub returns-in_err-insert : goal.returns-in_err-insert
returns-in_err-insert c = record { keeps = kept_same c.args.self.now _ refl refl }

pub returns : goal.returns
returns c = record { keeps = kept_same c.args.self.now _ refl refl }
