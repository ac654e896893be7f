use Rattle.std.proofs.Common.{arith, refl}
use Rattle.abs_tree.specs.declared.syntax.declaration.Signature.{Signature}
use Rattle.abs_lexer.specs.declared.lexeme.Lexeme.TheVariants as lexeme
use Rattle.abs_lexer.specs.declared.lexeme.Punctuator.TheVariants as punctuator
use Rattle.abs_parser.specs.Views.{spot}
use Rattle.abs_parser.proofs.reader.SignatureSteps.{refused_result, result_read, signature_named, parameters_read, signature_found}
use Rattle.abs_parser.proofs.reader.ResultLemmas.{passed_on}
use Rattle.abs_parser.proofs.reader.FoundLemmas.{found_few, token_shorter}
use Rattle.abs_parser.proofs.reader.StepLemmas.{over_token, over_part, refused_inside}
use Rattle.abs_parser.proofs.declarations.signature.Goals as goal

pub returns-in_err-result : goal.returns-in_err-result
returns-in_err-result c =
    passed_on _ _ c.from_residual.result c.from_residual.ensures.1
    (refused_result 0 (spot c.args.from) _ c.in_err-result.ensures)

pub returns-in_err-name : goal.returns-in_err-name
returns-in_err-name c =
    passed_on _ _ c.from_residual-in_err-name.result c.from_residual-in_err-name.ensures.1
    (refused_inside (result_read c.in_ok-result.ensures) _ c.in_err-name.ensures.refused)

pub intern-requires : goal.intern-requires
intern-requires c =
    let few = found_few c.in_ok-result.ensures in
    omega arith

pub returns-in_err-inside : goal.returns-in_err-inside
returns-in_err-inside c =
    let named = signature_named c.in_ok-result.ensures c.in_ok-name.ensures.found c.in_ok-name-2.ensures.names
    (omega arith) in
    passed_on _ _ c.from_residual-in_err-inside.result c.from_residual-in_err-inside.ensures.1
    (refused_inside named _ c.in_err-inside.ensures.refused)

pub params_maybe-requires : goal.params_maybe-requires
params_maybe-requires c =
    let named = signature_named c.in_ok-result.ensures c.in_ok-name.ensures.found c.in_ok-name-2.ensures.names
    (omega arith) in
    let few = named.few in
    let paren = token_shorter c.in_ok-inside.ensures.found.takes in
    omega arith

pub returns-in_err-params : goal.returns-in_err-params
returns-in_err-params c =
    let named = signature_named c.in_ok-result.ensures c.in_ok-name.ensures.found c.in_ok-name-2.ensures.names
    (omega arith) in
    let inside = over_token {kind = lexeme.Punctuator punctuator.OpenParen} named c.in_ok-inside.ensures.found refl refl
    (omega arith) in
    passed_on _ _ c.from_residual-in_err-params.result c.from_residual-in_err-params.ensures.1
    (refused_inside inside _ c.in_err-params.ensures)

pub returns-in_err-last : goal.returns-in_err-last
returns-in_err-last c =
    let named = signature_named c.in_ok-result.ensures c.in_ok-name.ensures.found c.in_ok-name-2.ensures.names
    (omega arith) in
    let inside = over_token {kind = lexeme.Punctuator punctuator.OpenParen} named c.in_ok-inside.ensures.found refl refl
    (omega arith) in
    passed_on _ _ c.from_residual-in_err-last.result c.from_residual-in_err-last.ensures.1
    (refused_inside (over_part inside c.in_ok-params.ensures) _ c.in_err-last.ensures.refused)

pub returns-in_err-end : goal.returns-in_err-end
returns-in_err-end c =
    let named = signature_named c.in_ok-result.ensures c.in_ok-name.ensures.found c.in_ok-name-2.ensures.names
    (omega arith) in
    let closed = parameters_read named c.in_ok-inside.ensures.found c.in_ok-params.ensures c.in_ok-last.ensures.found
    (omega arith) in
    passed_on _ _ c.from_residual-in_err-end.result c.from_residual-in_err-end.ensures.1
    (refused_inside closed _ c.in_err-end.ensures.refused)

pub returns : goal.returns
returns c =
    let signature : Signature = record {
      result = c.in_ok-result.result;
      name =
          record { place = c.in_ok-name.name.place; name = c.in_ok-name-2.name };
      params = c.in_ok-params.params;
    } in
    signature_found signature refl c.in_ok-result.ensures c.in_ok-name.ensures.found c.in_ok-name-2.ensures.symbol
    c.in_ok-name-2.ensures.names c.in_ok-inside.ensures.found
    c.in_ok-params.ensures c.in_ok-last.ensures.found c.in_ok-end.ensures.found (omega arith)
