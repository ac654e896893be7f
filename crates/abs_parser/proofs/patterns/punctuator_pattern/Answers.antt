use Rattle.std.proofs.Common.{◌∙◌, ◌+◌, [], ap, sym, refl}
use Rattle.abs_lexer.specs.Views.{lexed}
use Rattle.abs_lexer.specs.declared.lexeme.Lexeme.TheVariants as lexeme
use Rattle.abs_lexer.specs.declared.lexeme.Punctuator.TheVariants as punctuator
use Rattle.abs_tree.specs.Syntax.{SameNumber}
use Rattle.abs_parser.specs.Views.{spot}
use Rattle.abs_parser.proofs.grammar.DigitLemmas.{number_digits, number_fits}
use Rattle.abs_parser.proofs.grammar.PatternLemmas.{minus_tree, any_tree}
use Rattle.abs_parser.proofs.reader.PatternSteps.{pattern_begins, refused_underscore, refused_minus, narrowed_minus}
use Rattle.abs_parser.proofs.reader.ResultLemmas.{error_passed_on}
use Rattle.abs_parser.proofs.reader.StepLemmas.{over_token, all_read, refused_inside}
use Rattle.abs_parser.proofs.patterns.punctuator_pattern.Goals as goal

pub returns-in_err-any-clause-refused : goal.returns-in_err-any-clause-refused
returns-in_err-any-clause-refused c =
    error_passed_on _ c.from_residual.result c.from_residual.ensures.1
    (refused_underscore c.args.depth (spot c.args.from) _ c.args.punctuator c.requires.begins c.eq.ensures c.if-eq.true
    c.in_err-any.ensures.refused)

pub returns-then-eq-clause-found : goal.returns-then-eq-clause-found
returns-then-eq-clause-found c table =
    let takes = c.in_ok-any.ensures.found in
    all_read (over_token {kind = lexeme.Punctuator punctuator.Underscore} (pattern_begins c.args.depth table takes refl)
    takes refl refl c.in_ok-any.ensures.within)
    (λ names more. sym (any_tree (lexed c.in_ok-any.any) (c.args.depth + 1) takes.kind_is))

pub returns-in_err-minus-clause-refused : goal.returns-in_err-minus-clause-refused
returns-in_err-minus-clause-refused c =
    error_passed_on _ c.from_residual-in_err-minus.result c.from_residual-in_err-minus.ensures.1
    (refused_minus c.args.depth (spot c.args.from) _ c.args.punctuator c.requires.begins c.eq.ensures c.if-eq.false
    c.in_err-minus.ensures.refused)

pub returns-in_err-digits-clause-refused : goal.returns-in_err-digits-clause-refused
returns-in_err-digits-clause-refused c =
    let minus = c.in_ok-minus.ensures.found in
    error_passed_on _ c.from_residual-in_err-digits.result c.from_residual-in_err-digits.ensures.1
    (refused_inside (over_token {kind = lexeme.Punctuator punctuator.Minus} (pattern_begins c.args.depth [] minus refl)
    minus refl refl c.in_ok-minus.ensures.within) _ c.in_err-digits.ensures.refused)

pub numeral-requires-clause-number : goal.numeral-requires-clause-number
numeral-requires-clause-number c = number_digits c.in_ok-digits.ensures.found.kind_is c.in_ok-digits.ensures.well_formed

pub returns-clause-found : goal.returns-clause-found
returns-clause-found c table =
    let minus = c.in_ok-minus.ensures.found in
    let digits = c.in_ok-digits.ensures in
    all_read
    (over_token {kind = lexeme.Number}
    (over_token {kind = lexeme.Punctuator punctuator.Minus} (pattern_begins c.args.depth table minus refl) minus refl
    refl c.in_ok-minus.ensures.within) digits.found refl refl digits.within)
    (λ names more.
    ap (SameNumber c.in_ok-minus.minus.place)
    (narrowed_minus c.numeral.result _ c.numeral.ensures (number_fits digits.found.kind_is digits.well_formed))
    ∙ sym (minus_tree (lexed c.in_ok-minus.minus) (lexed c.in_ok-digits.digits) (c.args.depth + 1) (c.args.depth + 1)
    minus.kind_is))
