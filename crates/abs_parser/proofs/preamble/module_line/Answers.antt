use Rattle.std.proofs.Common.{refl}
use Rattle.abs_lexer.specs.declared.lexeme.Lexeme.TheVariants as lexeme
use Rattle.abs_lexer.specs.declared.lexeme.Punctuator.TheVariants as punctuator
use Rattle.abs_parser.specs.Productions.{Module}
use Rattle.abs_parser.specs.Views.{spot}
use Rattle.abs_parser.proofs.reader.ResultLemmas.{passed_on}
use Rattle.abs_parser.proofs.reader.PreambleSteps.{past_token, past_part, read_whole, refused_left, line_left_out, module_begins}
use Rattle.abs_parser.proofs.preamble.module_line.Goals as goal

pub returns-in_default : goal.returns-in_default
returns-in_default c = line_left_out {nonterminal = Module} c.args.symbols.now (spot c.args.from) refl
    c.in_default.ensures.other

pub returns-in_err-last : goal.returns-in_err-last
returns-in_err-last c =
    passed_on _ _ c.from_residual.result c.from_residual.ensures.1
    (refused_left _ (module_begins c.args.symbols.now c.in-Some.ensures.found) c.in_err-last.ensures)

pub returns-in_err-end : goal.returns-in_err-end
returns-in_err-end c =
    passed_on _ _ c.from_residual-in_err-end.result c.from_residual-in_err-end.ensures.1
    (refused_left _ (past_part (module_begins c.args.symbols.now c.in-Some.ensures.found) c.in_ok-last.ensures)
    c.in_err-end.ensures.refused)

pub returns : goal.returns
returns c =
    let named = past_part (module_begins c.args.symbols.now c.in-Some.ensures.found) c.in_ok-last.ensures in
    read_whole (past_token (lexeme.Punctuator punctuator.Semicolon) named c.in_ok-end.ensures.found refl refl)
