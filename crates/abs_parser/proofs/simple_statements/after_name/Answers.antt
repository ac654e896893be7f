use Rattle.std.proofs.Common.{arith}
use Rattle.abs_parser.specs.Views.{spot}
use Rattle.abs_parser.proofs.reader.FirstSteps.{assign_begins, assign_found, arguments_refused, rest_refused, side_found}
use Rattle.abs_parser.proofs.reader.ResultLemmas.{passed_on}
use Rattle.abs_parser.proofs.reader.FoundLemmas.{found_few}
use Rattle.abs_parser.proofs.reader.StepLemmas.{over_part, refused_inside}
use Rattle.abs_parser.proofs.simple_statements.after_name.Goals as goal

pub returns-in_err-side-clause-parses : goal.returns-in_err-side-clause-parses
returns-in_err-side-clause-parses c =
    passed_on _ _ c.from_residual.result c.from_residual.ensures.1
    (refused_inside (assign_begins c.args.depth c.args.symbols.now c.in-Some.ensures.found
    (omega (arith, c.requires.within))) _ c.in_err-side.ensures)

pub returns-in_err-end-clause-parses : goal.returns-in_err-end-clause-parses
returns-in_err-end-clause-parses c =
    let begun = assign_begins c.args.depth c.args.symbols.now c.in-Some.ensures.found (omega (arith, c.requires.within))
    in
    passed_on _ _ c.from_residual-in_err-end.result c.from_residual-in_err-end.ensures.1
    (refused_inside (over_part begun c.in_ok-side.ensures) _ c.in_err-end.ensures.refused)

pub returns-in-Some-clause-parses : goal.returns-in-Some-clause-parses
returns-in-Some-clause-parses c =
    assign_found c.args.index c.args.first c.place-place.result c.target.result c.in_ok-side.side c.place-place.ensures
    c.target.ensures
    c.in-Some.ensures.found c.in_ok-side.ensures c.in_ok-end.ensures.found (omega (arith, c.requires.within))

pub returns-in_err-arguments-clause-parses : goal.returns-in_err-arguments-clause-parses
returns-in_err-arguments-clause-parses c =
    passed_on _ _ c.from_residual-in_err-arguments.result c.from_residual-in_err-arguments.ensures.1
    (arguments_refused c.args.depth (spot c.args.from) _ c.in_default.ensures.other c.in_err-arguments.ensures)

pub rest-requires-clause-names : goal.rest-requires-clause-names
rest-requires-clause-names c = omega (arith, found_few c.in_ok-arguments.ensures)

pub returns-in_err-side-2-clause-parses : goal.returns-in_err-side-2-clause-parses
returns-in_err-side-2-clause-parses c =
    passed_on _ _ c.from_residual-in_err-side-2.result c.from_residual-in_err-side-2.ensures.1
    (rest_refused c.args.depth _ c.in_default.ensures.other c.in_ok-arguments.ensures c.in_err-side-2.ensures)

pub returns-clause-parses : goal.returns-clause-parses
returns-clause-parses c =
    side_found c.args.index c.args.first c.place-place.result c.in_ok-arguments.arguments c.in_ok-operand.operand
    c.in_ok-side-2.side c.in_default.ensures.other c.place-place.ensures c.in_ok-operand.ensures
    c.in_ok-arguments.ensures c.in_ok-side-2.ensures
