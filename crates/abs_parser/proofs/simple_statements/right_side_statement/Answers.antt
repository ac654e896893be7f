use Rattle.abs_parser.specs.Views.{spot}
use Rattle.abs_parser.proofs.reader.PlainSteps.{plain_refused, plain_begins, plain_found}
use Rattle.abs_parser.proofs.reader.ResultLemmas.{passed_on}
use Rattle.abs_parser.proofs.reader.StepLemmas.{refused_inside}
use Rattle.abs_parser.proofs.simple_statements.right_side_statement.Goals as goal

pub returns-in_err-side-clause-parses : goal.returns-in_err-side-clause-parses
returns-in_err-side-clause-parses c =
    passed_on _ _ c.from_residual.result c.from_residual.ensures.1
    (plain_refused c.args.depth (spot c.args.from) _ c.requires.plain c.in_err-side.ensures)

pub returns-in_err-end-clause-parses : goal.returns-in_err-end-clause-parses
returns-in_err-end-clause-parses c =
    passed_on _ _ c.from_residual-in_err-end.result c.from_residual-in_err-end.ensures.1
    (refused_inside (plain_begins c.requires.plain c.in_ok-side.ensures) _ c.in_err-end.ensures.refused)

pub returns-clause-parses : goal.returns-clause-parses
returns-clause-parses c = plain_found c.args.index c.in_ok-side.side c.requires.plain c.place.ensures
    c.in_ok-side.ensures c.in_ok-end.ensures.found c.in_ok-end.ensures.within
