use Rattle.std.proofs.Common.{◌+◌, refl, ap, arith, rules}
use Rattle.abs_lexer.specs.declared.lexeme.Lexeme.TheVariants as lexeme
use Rattle.abs_lexer.specs.declared.lexeme.Punctuator.TheVariants as punctuator
use Rattle.abs_tree.specs.SyntaxViews.{type_trees}
use Rattle.abs_parser.specs.TokenKinds.{UpperName}
use Rattle.abs_parser.specs.Productions.{Type', TypeArguments}
use Rattle.abs_parser.specs.Readings.{One, Optional}
use Rattle.abs_parser.specs.Views.{spot}
use Rattle.abs_parser.proofs.reader.ListLemmas.{list_of_types, trees_of_types}
use Rattle.abs_parser.proofs.reader.ListSteps.{first_so_far, next_so_far, all_so_far, refused_first, refused_next}
use Rattle.abs_parser.proofs.grammar.NameLemmas.{goes_on_further}
use Rattle.abs_parser.proofs.reader.ResultLemmas.{passed_on}
use Rattle.abs_parser.proofs.reader.FoundLemmas.{token_shorter, found_shorter, found_goes_on, symbol_kept}
use Rattle.abs_parser.proofs.reader.StepLemmas.{opens, over_token, over_name, over_part, into_last, all_read, refused_inside, refused_first_token, fits_next}
use Rattle.abs_parser.proofs.grammar.TypeLemmas.{type_opened, type_shut, arguments_follow, no_arguments, arguments_opened, type_named}
use Rattle.abs_parser.proofs.types.+types.Goals as goal

pub type_arguments-returns-in_default : goal.type_arguments-returns-in_default
type_arguments-returns-in_default t c =
    all_read (opens (Optional TypeArguments) c.args.depth c.args.symbols.now (spot c.args.from) _
    (no_arguments c.args.depth _ c.in_default.ensures.other))
    (λ names more. ap (type_trees names) c.new.ensures.items)

pub type_arguments-returns-in_err-types : goal.type_arguments-returns-in_err-types
type_arguments-returns-in_err-types t c =
    let less = c.in-Some.ensures.found in
    let fit = fits_next refl less in
    let outer = opens (Optional TypeArguments) c.args.depth c.args.symbols.now (spot c.args.from) _
    (arguments_follow c.args.depth _ fit) in
    let inner = opens (One TypeArguments) c.args.depth c.args.symbols.now (spot c.args.from) _
    (arguments_opened c.args.depth _ fit) in
    passed_on _ _ c.from_residual.result c.from_residual.ensures.1
    (refused_inside (into_last outer
    (over_token {kind = lexeme.Punctuator punctuator.Less} inner less refl refl c.requires.depth)) _
    c.in_err-types.ensures)

pub type_arguments-returns-in_err-end : goal.type_arguments-returns-in_err-end
type_arguments-returns-in_err-end t c =
    let less = c.in-Some.ensures.found in
    let fit = fits_next refl less in
    let outer = opens (Optional TypeArguments) c.args.depth c.args.symbols.now (spot c.args.from) _
    (arguments_follow c.args.depth _ fit) in
    let inner = opens (One TypeArguments) c.args.depth c.args.symbols.now (spot c.args.from) _
    (arguments_opened c.args.depth _ fit) in
    let types = over_part (over_token {kind = lexeme.Punctuator punctuator.Less} inner less refl refl c.requires.depth)
    c.in_ok-types.ensures in
    passed_on _ _ c.from_residual-in_err-end.result c.from_residual-in_err-end.ensures.1
    (refused_inside (into_last outer types) _ c.in_err-end.ensures.refused)

pub type_arguments-returns : goal.type_arguments-returns
type_arguments-returns t c =
    let less = c.in-Some.ensures.found in
    let fit = fits_next refl less in
    let outer = opens (Optional TypeArguments) c.args.depth c.args.symbols.now (spot c.args.from) _
    (arguments_follow c.args.depth _ fit) in
    let inner = opens (One TypeArguments) c.args.depth c.args.symbols.now (spot c.args.from) _
    (arguments_opened c.args.depth _ fit) in
    let types = over_part (over_token {kind = lexeme.Punctuator punctuator.Less} inner less refl refl c.requires.depth)
    c.in_ok-types.ensures in
    let end = over_token {kind = lexeme.Punctuator punctuator.Greater} types c.in_ok-end.ensures.found refl refl
    c.requires.depth in
    all_read (into_last outer end) c.in_ok-types.ensures.is

pub type_term-returns-in_err-name : goal.type_term-returns-in_err-name
type_term-returns-in_err-name t c =
    passed_on _ _ c.from_residual.result c.from_residual.ensures.1
    (refused_first_token UpperName (c.args.depth + 1) (One Type') c.args.depth (spot c.args.from) _
    (type_opened c.args.depth _) (type_shut c.args.depth _) c.in_err-name.ensures.refused)

pub type_term-returns-in_err-arguments : goal.type_term-returns-in_err-arguments
type_term-returns-in_err-arguments t c =
    let name = c.in_ok-name.ensures.found in
    let start = opens (One Type') c.args.depth c.args.symbols.now (spot c.args.from) _
    (type_opened c.args.depth _ (fits_next refl name)) in
    let named = over_name {kind = lexeme.UpperName} start name refl refl c.in_ok-name.ensures.within
    c.in_ok-symbol.ensures.names in
    passed_on _ _ c.from_residual-in_err-arguments.result c.from_residual-in_err-arguments.ensures.1
    (refused_inside named _ c.in_err-arguments.ensures)

pub type_term-returns : goal.type_term-returns
type_term-returns t c =
    let name = c.in_ok-name.ensures.found in
    let start = opens (One Type') c.args.depth c.args.symbols.now (spot c.args.from) _
    (type_opened c.args.depth _ (fits_next refl name)) in
    let named = over_name {kind = lexeme.UpperName} start name refl refl c.in_ok-name.ensures.within
    c.in_ok-symbol.ensures.names in
    let arguments = c.in_ok-arguments.ensures in
    all_read (over_part named arguments) (λ names more.
    type_named names c.in_ok-name.name.place c.in_ok-symbol.symbol c.in_ok-arguments.arguments
    (symbol_kept c.args.symbols.now c.in_ok-symbol.symbol c.in_ok-symbol.ensures.symbol c.in_ok-symbol.ensures.names
    names (goes_on_further (found_goes_on arguments) more)) (arguments.is names more))

pub types-returns-in_err-first : goal.types-returns-in_err-first
types-returns-in_err-first t c =
    passed_on _ _ c.from_residual.result c.from_residual.ensures.1
    (refused_first list_of_types c.args.depth (spot c.args.from) _ c.in_err-first.ensures)

pub types-loop-after-init : goal.types-loop-after-init
types-loop-after-init t c = record {
  read = first_so_far list_of_types trees_of_types c.in_ok-types.ensures.items c.in_ok-first.ensures;
}

pub types-type_term-requires-in-Some : goal.types-type_term-requires-in-Some
types-type_term-requires-in-Some t c =
    let few = c.loop-after.invariant.read.read.few in
    let shorter = c.loop-after.invariant.read.read.shorter in
    let comma = token_shorter c.in-Some.ensures.found.takes in
    (search rules, (omega arith, omega arith))

pub types-returns-in_err-next : goal.types-returns-in_err-next
types-returns-in_err-next t c =
    passed_on _ _ c.from_residual-in_err-next.result c.from_residual-in_err-next.ensures.1
    (refused_next c.loop-after.invariant.read c.in-Some.ensures.found c.requires.depth _ c.in_err-next.ensures)

pub types-loop-after-smaller : goal.types-loop-after-smaller
types-loop-after-smaller t c =
    let comma = token_shorter c.in-Some.ensures.found.takes in
    let type = found_shorter c.in_ok-next.ensures in
    omega arith

pub types-loop-after-preserved : goal.types-loop-after-preserved
types-loop-after-preserved t c =
    record {
      read = next_so_far c.loop-after.invariant.read c.in_ok-push.ensures.items c.in-Some.ensures.found
          c.requires.depth c.in_ok-next.ensures;
    }

pub types-returns : goal.types-returns
types-returns t c = all_so_far c.loop-after.invariant.read c.in_default.ensures.other
