use Rattle.std.proofs.Common.{arith}
use Rattle.abs_parser.proofs.reader.ClimbingLemmas.{climb_few}
use Rattle.abs_parser.proofs.reader.RestSteps.{operators_refused, rest_tail_refused, rest_end_refused, rest_found}
use Rattle.abs_parser.proofs.reader.ResultLemmas.{passed_on}
use Rattle.abs_parser.proofs.simple_statements.rest.Goals as goal

pub returns-in_err-value : goal.returns-in_err-value
returns-in_err-value c =
    passed_on _ _ c.from_residual.result c.from_residual.ensures.1 (operators_refused _ _ c.in_err-value.ensures.refused)

pub right_side_tail-requires-clause-names : goal.right_side_tail-requires-clause-names
right_side_tail-requires-clause-names c = omega (arith, climb_few c.in_ok-value.ensures.found)

pub returns-in_err-side : goal.returns-in_err-side
returns-in_err-side c =
    passed_on _ _ c.from_residual-in_err-side.result c.from_residual-in_err-side.ensures.1
    (rest_tail_refused _ _ c.in_ok-value.ensures.found c.in_err-side.ensures)

pub returns-in_err-end : goal.returns-in_err-end
returns-in_err-end c =
    passed_on _ _ c.from_residual-in_err-end.result c.from_residual-in_err-end.ensures.1
    (rest_end_refused _ c.in_ok-value.ensures.found c.in_ok-side.ensures c.in_err-end.ensures.refused)

pub returns : goal.returns
returns c =
    rest_found c.in_ok-side.side c.in_ok-value.ensures.found c.in_ok-side.ensures c.in_ok-end.ensures.found
    (omega (arith, c.requires.within))
