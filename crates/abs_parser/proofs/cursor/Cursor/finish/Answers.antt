use Rattle.abs_parser.specs.TokenKinds.{End}
use Rattle.abs_parser.specs.Views.{spot}
use Rattle.abs_parser.proofs.grammar.AskedLemmas.{other_refused, unfit_for_end}
use Rattle.abs_parser.proofs.cursor.Cursor.finish.Goals as goal

pub returns-in-Some-clause-refused : goal.returns-in-Some-clause-refused
returns-in-Some-clause-refused c =
    other_refused End (spot c.args.self) c.wrong.result c.wrong.ensures (unfit_for_end c.in-Some.ensures.some) 0
