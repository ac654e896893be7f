use Rattle.abs_parser.specs.ReaderAnswers.{fixed_kind}
use Rattle.abs_parser.specs.Views.{spot}
use Rattle.abs_parser.proofs.grammar.AskedLemmas.{other_refused}
use Rattle.abs_parser.proofs.cursor.Cursor.take_name.Goals as goal

pub returns-in-None-clause-refused : goal.returns-in-None-clause-refused
returns-in-None-clause-refused c =
    other_refused (fixed_kind c.args.name) (spot c.args.self) c.wrong.result c.wrong.ensures c.in-None.ensures.other 0
