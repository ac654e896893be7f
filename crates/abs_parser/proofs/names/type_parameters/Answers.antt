use Rattle.std.proofs.Common.{map, refl, arith}
use Rattle.abs_lexer.specs.declared.lexeme.Lexeme.TheVariants as lexeme
use Rattle.abs_lexer.specs.declared.lexeme.Punctuator.TheVariants as punctuator
use Rattle.abs_tree.specs.SyntaxViews.{declared as declared_tree}
use Rattle.abs_parser.specs.Views.{spot}
use Rattle.abs_parser.proofs.reader.NameListSteps.{type_parameter_names, no_names_found, names_begin, names_read}
use Rattle.abs_parser.proofs.reader.ResultLemmas.{passed_on}
use Rattle.abs_parser.proofs.reader.StepLemmas.{over_token, over_name, all_read, refused_inside}
use Rattle.abs_parser.proofs.names.type_parameters.Goals as goal

pub returns-in_default : goal.returns-in_default
returns-in_default c = no_names_found 0 c.args.symbols.now (spot c.args.from) type_parameter_names
    c.in_default.ensures.other c.new.ensures.items

pub returns-in_err-name : goal.returns-in_err-name
returns-in_err-name c =
    passed_on _ _ c.from_residual.result c.from_residual.ensures.1
    (refused_inside (names_begin 0 c.args.symbols.now type_parameter_names c.in-Some.ensures.found (omega arith)) _
    c.in_err-name.ensures.refused)

pub returns-in_err-parameters : goal.returns-in_err-parameters
returns-in_err-parameters c =
    passed_on _ _ c.from_residual-in_err-parameters.result c.from_residual-in_err-parameters.ensures.1 (
    let named = over_name (names_begin 0 c.args.symbols.now type_parameter_names c.in-Some.ensures.found (omega arith))
    c.in_ok-name.ensures.found refl refl (omega arith) c.in_ok-intern.ensures.names in
    refused_inside named _ c.in_err-parameters.ensures)

pub returns-in_err-end : goal.returns-in_err-end
returns-in_err-end c =
    passed_on _ _ c.from_residual-in_err-end.result c.from_residual-in_err-end.ensures.1 (
    let read = names_read c.in_ok-intern.field-0
    (λ names. map (declared_tree names) c.in_ok-parameters.parameters.items) type_parameter_names
    c.in-Some.ensures.found c.in_ok-name.ensures.found
    c.in_ok-intern.ensures.symbol c.in_ok-intern.ensures.names (omega arith) c.in_ok-parameters.ensures in
    refused_inside read.read _ c.in_err-end.ensures.refused)

pub returns : goal.returns
returns c =
    let read = names_read c.in_ok-intern.field-0
    (λ names. map (declared_tree names) c.in_ok-parameters.parameters.items) type_parameter_names
    c.in-Some.ensures.found c.in_ok-name.ensures.found
    c.in_ok-intern.ensures.symbol c.in_ok-intern.ensures.names (omega arith) c.in_ok-parameters.ensures in
    all_read (over_token {kind = lexeme.Punctuator punctuator.Greater} read.read c.in_ok-end.ensures.found refl refl
    (omega arith)) (λ names more. read.is names more _)
