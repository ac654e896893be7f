use Rattle.std.proofs.Common.{refl}
use Rattle.abs_lexer.specs.declared.lexeme.Lexeme.TheVariants as lexeme
use Rattle.abs_lexer.specs.declared.lexeme.Punctuator.TheVariants as punctuator
use Rattle.abs_parser.specs.Productions.{Import}
use Rattle.abs_parser.specs.Views.{spot}
use Rattle.abs_parser.proofs.reader.ResultLemmas.{passed_on}
use Rattle.abs_parser.proofs.reader.PreambleSteps.{past_token, read_whole, refused_left, line_left_out, import_begins, import_starred, import_from, import_abs, import_library}
use Rattle.abs_parser.proofs.preamble.import_line.Goals as goal

pub returns-in_default : goal.returns-in_default
returns-in_default c = line_left_out {nonterminal = Import} c.args.symbols.now (spot c.args.from) refl
    c.in_default.ensures.other

pub returns-in_err-from_at : goal.returns-in_err-from_at
returns-in_err-from_at c =
    passed_on _ _ c.from_residual.result c.from_residual.ensures.1
    (refused_left _ (import_begins c.args.symbols.now c.in-Some.ensures.found) c.in_err-from_at.ensures.refused)

pub returns-in_err-abs_at : goal.returns-in_err-abs_at
returns-in_err-abs_at c =
    passed_on _ _ c.from_residual-in_err-abs_at.result c.from_residual-in_err-abs_at.ensures.1
    (refused_left _ (import_starred c.args.symbols.now c.in-Some.ensures.found c.in_ok-from_at.ensures.found)
    c.in_err-abs_at.ensures.refused)

pub returns-in_err-abs : goal.returns-in_err-abs
returns-in_err-abs c =
    let begun = import_from c.args.symbols.now c.in-Some.ensures.found c.in_ok-from_at.ensures.found
    c.in_ok-abs_at.ensures.found in
    passed_on _ _ c.from_residual-in_err-abs.result c.from_residual-in_err-abs.ensures.1
    (refused_left _ begun c.in_err-abs.ensures.refused)

pub returns-in_err-library_at : goal.returns-in_err-library_at
returns-in_err-library_at c =
    let begun = import_from c.args.symbols.now c.in-Some.ensures.found c.in_ok-from_at.ensures.found
    c.in_ok-abs_at.ensures.found in
    passed_on _ _ c.from_residual-in_err-library_at.result c.from_residual-in_err-library_at.ensures.1
    (refused_left _ (import_abs begun c.in_ok-abs.ensures.found c.in_ok-intern.ensures.names)
    c.in_err-library_at.ensures.refused)

pub returns-in_err-library : goal.returns-in_err-library
returns-in_err-library c =
    let begun = import_from c.args.symbols.now c.in-Some.ensures.found c.in_ok-from_at.ensures.found
    c.in_ok-abs_at.ensures.found in
    let named = import_abs begun c.in_ok-abs.ensures.found c.in_ok-intern.ensures.names in
    passed_on _ _ c.from_residual-in_err-library.result c.from_residual-in_err-library.ensures.1
    (refused_left _ (past_token (lexeme.Punctuator punctuator.Dot) named c.in_ok-library_at.ensures.found refl refl)
    c.in_err-library.ensures.refused)

pub returns-in_err-end : goal.returns-in_err-end
returns-in_err-end c =
    let begun = import_from c.args.symbols.now c.in-Some.ensures.found c.in_ok-from_at.ensures.found
    c.in_ok-abs_at.ensures.found in
    let named = import_abs begun c.in_ok-abs.ensures.found c.in_ok-intern.ensures.names in
    let last = import_library named c.in_ok-library_at.ensures.found c.in_ok-library.ensures.found
    c.in_ok-intern-2.ensures.names in
    passed_on _ _ c.from_residual-in_err-end.result c.from_residual-in_err-end.ensures.1
    (refused_left _ last c.in_err-end.ensures.refused)

pub returns : goal.returns
returns c =
    let begun = import_from c.args.symbols.now c.in-Some.ensures.found c.in_ok-from_at.ensures.found
    c.in_ok-abs_at.ensures.found in
    let named = import_abs begun c.in_ok-abs.ensures.found c.in_ok-intern.ensures.names in
    let last = import_library named c.in_ok-library_at.ensures.found c.in_ok-library.ensures.found
    c.in_ok-intern-2.ensures.names in
    read_whole (past_token (lexeme.Punctuator punctuator.Semicolon) last c.in_ok-end.ensures.found refl refl)
