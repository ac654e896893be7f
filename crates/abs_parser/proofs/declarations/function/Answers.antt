use Rattle.std.proofs.Common.{arith, refl}
use Rattle.abs_lexer.specs.declared.lexeme.Lexeme.TheVariants as lexeme
use Rattle.abs_lexer.specs.declared.lexeme.Punctuator.TheVariants as punctuator
use Rattle.abs_parser.specs.Productions.{Decl}
use Rattle.abs_parser.specs.Readings.{One}
use Rattle.abs_parser.specs.Views.{spot}
use Rattle.abs_parser.proofs.reader.KeywordSteps.{keyword_read, keyword_refused}
use Rattle.abs_parser.proofs.reader.SignatureSteps.{parameters_read, function_opened, function_named, function_assigned, function_found}
use Rattle.abs_parser.proofs.reader.ResultLemmas.{passed_on}
use Rattle.abs_parser.proofs.reader.FoundLemmas.{found_few, token_shorter}
use Rattle.abs_parser.proofs.reader.StepLemmas.{over_token, over_part, refused_inside}
use Rattle.abs_parser.proofs.declarations.function.Goals as goal

pub returns-in_err-token-clause-parses : goal.returns-in_err-token-clause-parses
returns-in_err-token-clause-parses c =
    passed_on _ _ c.from_residual.result c.from_residual.ensures.1
    (keyword_refused (One Decl) 0 (spot c.args.from) _ (function_opened 0) c.requires.begins
    c.in_err-token.ensures.refused)

pub returns-in_err-result-clause-parses : goal.returns-in_err-result-clause-parses
returns-in_err-result-clause-parses c =
    passed_on _ _ c.from_residual-in_err-result.result c.from_residual-in_err-result.ensures.1
    (refused_inside (keyword_read 0 c.args.symbols.now (function_opened 0) c.in_ok-token.ensures.found (omega arith)) _
    c.in_err-result.ensures)

pub returns-in_err-name-clause-parses : goal.returns-in_err-name-clause-parses
returns-in_err-name-clause-parses c =
    passed_on _ _ c.from_residual-in_err-name.result c.from_residual-in_err-name.ensures.1
    (refused_inside (over_part (keyword_read 0 c.args.symbols.now (function_opened 0) c.in_ok-token.ensures.found
    (omega arith)) c.in_ok-result.ensures) _ c.in_err-name.ensures.refused)

pub intern-requires : goal.intern-requires
intern-requires c =
    let few = found_few c.in_ok-result.ensures in
    let token = token_shorter c.in_ok-token.ensures.found.takes in
    omega arith

pub type_parameters-requires : goal.type_parameters-requires
type_parameters-requires c =
    let named = function_named c.in_ok-token.ensures.found c.in_ok-result.ensures c.in_ok-name.ensures.found
    c.in_ok-intern.ensures.names (omega arith) in
    let few = named.few in
    record { names = omega arith }

pub returns-in_err-parameters-clause-parses : goal.returns-in_err-parameters-clause-parses
returns-in_err-parameters-clause-parses c =
    let named = function_named c.in_ok-token.ensures.found c.in_ok-result.ensures c.in_ok-name.ensures.found
    c.in_ok-intern.ensures.names (omega arith) in
    passed_on _ _ c.from_residual-in_err-parameters.result c.from_residual-in_err-parameters.ensures.1
    (refused_inside named _ c.in_err-parameters.ensures)

pub returns-in_err-inside-clause-parses : goal.returns-in_err-inside-clause-parses
returns-in_err-inside-clause-parses c =
    let named = function_named c.in_ok-token.ensures.found c.in_ok-result.ensures c.in_ok-name.ensures.found
    c.in_ok-intern.ensures.names (omega arith) in
    let listed = over_part named c.in_ok-parameters.ensures in
    passed_on _ _ c.from_residual-in_err-inside.result c.from_residual-in_err-inside.ensures.1
    (refused_inside listed _ c.in_err-inside.ensures.refused)

pub params_maybe-requires : goal.params_maybe-requires
params_maybe-requires c =
    let named = function_named c.in_ok-token.ensures.found c.in_ok-result.ensures c.in_ok-name.ensures.found
    c.in_ok-intern.ensures.names (omega arith) in
    let listed = over_part named c.in_ok-parameters.ensures in
    let few = listed.few in
    let paren = token_shorter c.in_ok-inside.ensures.found.takes in
    omega arith

pub returns-in_err-params-clause-parses : goal.returns-in_err-params-clause-parses
returns-in_err-params-clause-parses c =
    let named = function_named c.in_ok-token.ensures.found c.in_ok-result.ensures c.in_ok-name.ensures.found
    c.in_ok-intern.ensures.names (omega arith) in
    let listed = over_part named c.in_ok-parameters.ensures in
    let inside = over_token {kind = lexeme.Punctuator punctuator.OpenParen} listed c.in_ok-inside.ensures.found refl
    refl (omega arith) in
    passed_on _ _ c.from_residual-in_err-params.result c.from_residual-in_err-params.ensures.1
    (refused_inside inside _ c.in_err-params.ensures)

pub returns-in_err-equals-clause-parses : goal.returns-in_err-equals-clause-parses
returns-in_err-equals-clause-parses c =
    let named = function_named c.in_ok-token.ensures.found c.in_ok-result.ensures c.in_ok-name.ensures.found
    c.in_ok-intern.ensures.names (omega arith) in
    let listed = over_part named c.in_ok-parameters.ensures in
    let inside = over_token {kind = lexeme.Punctuator punctuator.OpenParen} listed c.in_ok-inside.ensures.found refl
    refl (omega arith) in
    passed_on _ _ c.from_residual-in_err-equals.result c.from_residual-in_err-equals.ensures.1
    (refused_inside (over_part inside c.in_ok-params.ensures) _ c.in_err-equals.ensures.refused)

pub returns-in_err-value_at-clause-parses : goal.returns-in_err-value_at-clause-parses
returns-in_err-value_at-clause-parses c =
    let named = function_named c.in_ok-token.ensures.found c.in_ok-result.ensures c.in_ok-name.ensures.found
    c.in_ok-intern.ensures.names (omega arith) in
    let listed = over_part named c.in_ok-parameters.ensures in
    let closed = parameters_read listed c.in_ok-inside.ensures.found c.in_ok-params.ensures c.in_ok-equals.ensures.found
    (omega arith) in
    passed_on _ _ c.from_residual-in_err-value_at.result c.from_residual-in_err-value_at.ensures.1
    (refused_inside closed _ c.in_err-value_at.ensures.refused)

pub expression-requires : goal.expression-requires
expression-requires c =
    let named = function_named c.in_ok-token.ensures.found c.in_ok-result.ensures c.in_ok-name.ensures.found
    c.in_ok-intern.ensures.names (omega arith) in
    let assigned = function_assigned named c.in_ok-parameters.ensures c.in_ok-inside.ensures.found
    c.in_ok-params.ensures c.in_ok-equals.ensures.found c.in_ok-value_at.ensures.found (omega arith) in
    let few = assigned.few in
    omega arith

pub returns-in_err-value-clause-parses : goal.returns-in_err-value-clause-parses
returns-in_err-value-clause-parses c =
    let named = function_named c.in_ok-token.ensures.found c.in_ok-result.ensures c.in_ok-name.ensures.found
    c.in_ok-intern.ensures.names (omega arith) in
    let assigned = function_assigned named c.in_ok-parameters.ensures c.in_ok-inside.ensures.found
    c.in_ok-params.ensures c.in_ok-equals.ensures.found c.in_ok-value_at.ensures.found (omega arith) in
    passed_on _ _ c.from_residual-in_err-value.result c.from_residual-in_err-value.ensures.1
    (refused_inside assigned _ c.in_err-value.ensures)

pub returns-in_err-end-clause-parses : goal.returns-in_err-end-clause-parses
returns-in_err-end-clause-parses c =
    let named = function_named c.in_ok-token.ensures.found c.in_ok-result.ensures c.in_ok-name.ensures.found
    c.in_ok-intern.ensures.names (omega arith) in
    let assigned = function_assigned named c.in_ok-parameters.ensures c.in_ok-inside.ensures.found
    c.in_ok-params.ensures c.in_ok-equals.ensures.found c.in_ok-value_at.ensures.found (omega arith) in
    passed_on _ _ c.from_residual-in_err-end.result c.from_residual-in_err-end.ensures.1
    (refused_inside (over_part assigned c.in_ok-value.ensures) _ c.in_err-end.ensures.refused)

pub returns-clause-parses : goal.returns-clause-parses
returns-clause-parses c =
    function_found c.in_ok-result.result c.in_ok-intern.field-0 c.in_ok-parameters.parameters c.in_ok-params.params
    c.in_ok-value-2.value c.in_ok-value-2.ensures.ok c.in_ok-token.ensures.found
    c.in_ok-result.ensures c.in_ok-name.ensures.found c.in_ok-intern.ensures.symbol c.in_ok-intern.ensures.names
    c.in_ok-parameters.ensures c.in_ok-inside.ensures.found
    c.in_ok-params.ensures c.in_ok-equals.ensures.found c.in_ok-value_at.ensures.found c.in_ok-value.ensures
    c.in_ok-end.ensures.found (omega arith)
