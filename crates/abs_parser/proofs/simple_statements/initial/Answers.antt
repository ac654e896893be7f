use Rattle.abs_parser.specs.Views.{spot}
use Rattle.abs_parser.proofs.reader.LocalSteps.{initial_begins, initial_found, no_initial_found}
use Rattle.abs_parser.proofs.reader.ResultLemmas.{passed_on}
use Rattle.abs_parser.proofs.reader.StepLemmas.{refused_inside}
use Rattle.abs_parser.proofs.simple_statements.initial.Goals as goal

pub returns-in_default : goal.returns-in_default
returns-in_default c = no_initial_found c.args.depth c.args.symbols.now (spot c.args.from) c.in_default.ensures.other

pub returns-in_err-side : goal.returns-in_err-side
returns-in_err-side c =
    passed_on _ _ c.from_residual.result c.from_residual.ensures.1
    (refused_inside (initial_begins c.args.depth c.args.symbols.now c.in-Some.ensures.found c.requires.depth) _
    c.in_err-side.ensures)

pub returns : goal.returns
returns c = initial_found c.in_ok-side.side c.in-Some.ensures.found c.requires.depth c.in_ok-side.ensures
