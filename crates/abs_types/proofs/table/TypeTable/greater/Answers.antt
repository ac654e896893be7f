use Rattle.std.proofs.Common.{sym}
use Rattle.abs_types.proofs.JoinLemmas.{join_of_fitting, join_of_greater}
use Rattle.abs_types.proofs.TableJoinLemmas.{unlike_join}
use Rattle.abs_types.specs.TypeTables.{declarations_of}
use Rattle.abs_types.proofs.table.TypeTable.greater.Goals as goal

pub returns-then-fits_apart : goal.returns-then-fits_apart
returns-then-fits_apart c = record {
  among = c.requires.other;
  is = sym (join_of_fitting (declarations_of c.args.self.now) _ _ (sym c.if-fits_apart.ensures));
}

pub returns-then-fits_apart-2 : goal.returns-then-fits_apart-2
returns-then-fits_apart-2 c = record {
  among = c.requires.one;
  is = sym (join_of_greater (declarations_of c.args.self.now) _ _ (sym c.if-fits_apart.ensures)
      (sym c.if-fits_apart-2.ensures));
}

pub returns : goal.returns
returns c = record {
  among = tt;
  is = sym (unlike_join (declarations_of c.args.self.now) _ _ c.requires.apart (sym c.if-fits_apart.ensures)
      (sym c.if-fits_apart-2.ensures));
}
