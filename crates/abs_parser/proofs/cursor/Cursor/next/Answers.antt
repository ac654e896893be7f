use Rattle.std.proofs.Common.{refl}
use Rattle.abs_parser.proofs.cursor.Cursor.next.Goals as goal
use Rattle.list_facts.proofs.EntryLemmas.{drop_found}

pub returns-clause-some : goal.returns-clause-some
returns-clause-some c = record {
  rest =
      drop_found c.args.self.tokens.now.tokens c.args.self.index _ c.at-token.ensures.token;
  end = refl;
}
