use Rattle.std.proofs.Common.{arith}
use Rattle.abs_parser.specs.Views.{spot}
use Rattle.abs_parser.proofs.reader.ParameterSteps.{refused_param, param_typed, param_found}
use Rattle.abs_parser.proofs.reader.ResultLemmas.{passed_on}
use Rattle.abs_parser.proofs.reader.FoundLemmas.{found_few}
use Rattle.abs_parser.proofs.reader.StepLemmas.{refused_inside}
use Rattle.abs_parser.proofs.parameters.param.Goals as goal

pub returns-in_err-type_of : goal.returns-in_err-type_of
returns-in_err-type_of c =
    passed_on _ _ c.from_residual.result c.from_residual.ensures.1
    (refused_param 0 (spot c.args.from) _ c.in_err-type_of.ensures)

pub returns-in_err-name : goal.returns-in_err-name
returns-in_err-name c =
    passed_on _ _ c.from_residual-in_err-name.result c.from_residual-in_err-name.ensures.1
    (refused_inside (param_typed c.in_ok-type_of.ensures) _ c.in_err-name.ensures.refused)

pub intern-requires : goal.intern-requires
intern-requires c = let few = found_few c.in_ok-type_of.ensures in omega arith

pub returns : goal.returns
returns c =
    param_found c.in_ok-type_of.type_of c.in_ok-intern.field-0 c.in_ok-type_of.ensures c.in_ok-name.ensures.found
    c.in_ok-intern.ensures.symbol c.in_ok-intern.ensures.names (omega arith)
