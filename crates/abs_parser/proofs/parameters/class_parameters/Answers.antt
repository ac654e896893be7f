use Rattle.std.proofs.Common.{ap, map, refl, arith}
use Rattle.abs_lexer.specs.declared.lexeme.Lexeme.TheVariants as lexeme
use Rattle.abs_lexer.specs.declared.lexeme.Punctuator.TheVariants as punctuator
use Rattle.abs_tree.specs.SyntaxViews.{param_tree}
use Rattle.abs_parser.specs.Productions.{ClassParameters}
use Rattle.abs_parser.specs.Readings.{Optional}
use Rattle.abs_parser.specs.Views.{spot}
use Rattle.abs_parser.proofs.reader.ListSteps.{parentheses_left_out, parenthesis_read_maybe}
use Rattle.abs_parser.proofs.reader.ParameterSteps.{class_parameters}
use Rattle.abs_parser.proofs.reader.ResultLemmas.{passed_on}
use Rattle.abs_parser.proofs.reader.StepLemmas.{opens, over_token, over_part, all_read, refused_inside}
use Rattle.abs_parser.proofs.parameters.class_parameters.Goals as goal

pub returns-in_default : goal.returns-in_default
returns-in_default c =
    all_read (opens (Optional ClassParameters) 0 c.args.symbols.now (spot c.args.from) _
    (parentheses_left_out class_parameters _ 0 c.in_default.ensures.other))
    (λ names more. ap (map (param_tree names)) c.new.ensures.items)

pub returns-in_err-params : goal.returns-in_err-params
returns-in_err-params c =
    passed_on _ _ c.from_residual.result c.from_residual.ensures.1
    (refused_inside (parenthesis_read_maybe class_parameters 0 c.args.symbols.now c.in-Some.ensures.found (omega arith))
    _ c.in_err-params.ensures)

pub returns-in_err-end : goal.returns-in_err-end
returns-in_err-end c =
    let so = parenthesis_read_maybe class_parameters 0 c.args.symbols.now c.in-Some.ensures.found (omega arith) in
    passed_on _ _ c.from_residual-in_err-end.result c.from_residual-in_err-end.ensures.1
    (refused_inside (over_part so c.in_ok-params.ensures) _ c.in_err-end.ensures.refused)

pub returns : goal.returns
returns c =
    let so = parenthesis_read_maybe class_parameters 0 c.args.symbols.now c.in-Some.ensures.found (omega arith) in
    all_read (over_token {kind = lexeme.Punctuator punctuator.CloseParen} (over_part so c.in_ok-params.ensures)
    c.in_ok-end.ensures.found refl refl (omega arith)) c.in_ok-params.ensures.is
