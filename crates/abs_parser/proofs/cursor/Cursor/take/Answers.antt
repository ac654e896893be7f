use Rattle.std.proofs.Common.{arith}
use Rattle.abs_parser.specs.ReaderAnswers.{asked}
use Rattle.abs_parser.specs.Views.{spot}
use Rattle.abs_parser.proofs.grammar.AskedLemmas.{other_refused}
use Rattle.abs_parser.proofs.reader.StepLemmas.{deep_refused, fits_next}
use Rattle.abs_parser.proofs.cursor.Cursor.take.Goals as goal

pub returns-in_default-clause-refused : goal.returns-in_default-clause-refused
returns-in_default-clause-refused c =
    other_refused (asked c.args.kind) (spot c.args.self) c.wrong.result c.wrong.ensures c.in_default.ensures.other
    c.args.depth

pub returns-then-depth-gt-LIMIT-clause-refused : goal.returns-then-depth-gt-LIMIT-clause-refused
returns-then-depth-gt-LIMIT-clause-refused c =
    deep_refused (asked c.args.kind) c.args.depth (spot c.args.self) c.deep.result c.deep.ensures
    (fits_next c.requires.asked c.in-Some.ensures.found) (omega arith)
