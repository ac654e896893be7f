use Rattle.std.proofs.Common.{◌∙◌, ap, sym, refl, arith}
use Rattle.abs_lexer.specs.declared.lexeme.Lexeme.TheVariants as lexeme
use Rattle.abs_lexer.specs.declared.lexeme.Punctuator.TheVariants as punctuator
use Rattle.abs_tree.specs.SyntaxViews.{type_trees}
use Rattle.abs_parser.specs.Productions.{ConstructorTypes}
use Rattle.abs_parser.specs.Readings.{Optional}
use Rattle.abs_parser.specs.TreesOf.{types_maybe}
use Rattle.abs_parser.specs.Views.{spot}
use Rattle.abs_parser.proofs.reader.ListLemmas.{list_of_types}
use Rattle.abs_parser.proofs.reader.ListSteps.{maybe_found, refused_between, parentheses_left_out, parenthesis_read_maybe, nothing_between}
use Rattle.abs_parser.proofs.reader.ParameterSteps.{constructor_types}
use Rattle.abs_parser.proofs.reader.ResultLemmas.{passed_on}
use Rattle.abs_parser.proofs.reader.StepLemmas.{opens, over_token, over_part, all_read, refused_inside}
use Rattle.abs_parser.proofs.parameters.constructor_types.Goals as goal

pub returns-in_default : goal.returns-in_default
returns-in_default c =
    all_read (opens (Optional ConstructorTypes) 0 c.args.symbols.now (spot c.args.from) _
    (parentheses_left_out constructor_types _ 0 c.in_default.ensures.other))
    (λ names more. ap (type_trees names) c.new.ensures.items)

pub returns-in-Some-accept : goal.returns-in-Some-accept
returns-in-Some-accept c =
    let close = c.in-Some-accept.ensures.found in
    let none = nothing_between constructor_types 0 c.args.symbols.now close in
    let so = over_part (parenthesis_read_maybe constructor_types 0 c.args.symbols.now c.in-Some.ensures.found
    (omega arith)) none in
    all_read (over_token {kind = lexeme.Punctuator punctuator.CloseParen} so close refl refl (omega arith))
    (λ names more. ap (type_trees names) c.new-in-Some-accept.ensures.items ∙ sym (ap types_maybe (none.is names more)))

pub returns-in_err-types : goal.returns-in_err-types
returns-in_err-types c =
    let so = parenthesis_read_maybe constructor_types 0 c.args.symbols.now c.in-Some.ensures.found (omega arith) in
    passed_on _ _ c.from_residual.result c.from_residual.ensures.1
    (refused_between list_of_types _ so c.in_default-accept.ensures.other c.in_err-types.ensures)

pub returns-in_err-end : goal.returns-in_err-end
returns-in_err-end c =
    let so = parenthesis_read_maybe constructor_types 0 c.args.symbols.now c.in-Some.ensures.found (omega arith) in
    passed_on _ _ c.from_residual-in_err-end.result c.from_residual-in_err-end.ensures.1
    (refused_inside (over_part so (maybe_found list_of_types c.in_ok-types.ensures)) _ c.in_err-end.ensures.refused)

pub returns : goal.returns
returns c =
    let found = c.in_ok-types.ensures in
    let maybe = maybe_found list_of_types found in
    let so = over_part (parenthesis_read_maybe constructor_types 0 c.args.symbols.now c.in-Some.ensures.found
    (omega arith)) maybe in
    all_read (over_token {kind = lexeme.Punctuator punctuator.CloseParen} so c.in_ok-end.ensures.found refl refl
    (omega arith)) (λ names more. found.is names more ∙ sym (ap types_maybe (maybe.is names more)))
