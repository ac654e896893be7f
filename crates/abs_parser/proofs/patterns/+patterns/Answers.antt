use Rattle.std.proofs.Common.{ℕ, ◌∙◌, ◌+◌, List, refl, ap, sym, arith, rules}
use Rattle.abs_lexer.specs.declared.lexeme.Lexeme.TheVariants as lexeme
use Rattle.abs_lexer.specs.declared.lexeme.Punctuator.TheVariants as punctuator
use Rattle.abs_lexer.specs.Views.{lexed}
use Rattle.abs_tree.specs.Syntax.{Unresolved, Binds, SameNumber, SameString, Built}
use Rattle.abs_tree.specs.SyntaxViews.{pattern_trees}
use Rattle.abs_parser.specs.Readings.{One, Optional}
use Rattle.abs_parser.specs.TreesOf.{patterns_maybe}
use Rattle.abs_parser.specs.Productions.{Pattern, PatternArguments}
use Rattle.abs_parser.specs.Views.{spot}
use Rattle.abs_parser.proofs.grammar.BeginningLemmas.{keywords_do_not}
use Rattle.abs_parser.proofs.grammar.DigitLemmas.{number_digits, number_fits}
use Rattle.abs_parser.proofs.reader.ListLemmas.{list_of_patterns, trees_of_patterns, pattern_arguments}
use Rattle.abs_parser.proofs.reader.ListSteps.{first_so_far, next_so_far, all_so_far, refused_first, refused_next, maybe_found, refused_between, parentheses_left_out, parenthesis_read_maybe, nothing_between}
use Rattle.abs_parser.proofs.reader.ResultLemmas.{passed_on}
use Rattle.abs_parser.proofs.reader.FoundLemmas.{token_shorter, found_shorter, found_goes_on, symbol_kept}
use Rattle.abs_parser.proofs.reader.StepLemmas.{opens, over_token, over_name, over_part, all_read, refused_inside}
use Rattle.abs_parser.proofs.grammar.NameLemmas.{goes_on_further}
use Rattle.abs_tree.proofs.SyntaxLemmas.{pattern_tree-built}
use Rattle.abs_parser.proofs.grammar.PatternLemmas.{constructor_opened, binds_tree, built_tree, number_tree, text_tree}
use Rattle.abs_parser.proofs.reader.PatternSteps.{pattern_begins, refused_at_end, refused_pattern, refused_no_pattern}
use Rattle.abs_parser.proofs.reader.PrimarySteps.{stands}
use Rattle.abs_parser.proofs.patterns.+patterns.Goals as goal
use Rattle.list_facts.proofs.DigitLemmas.{narrowed}

pub pattern-returns-in_default : goal.pattern-returns-in_default
pattern-returns-in_default t c =
    refused_at_end c.args.depth (spot c.args.from) _ c.wrong.ensures c.in_default.ensures.none

pub pattern-returns-in_err-name-in-LowerName : goal.pattern-returns-in_err-name-in-LowerName
pattern-returns-in_err-name-in-LowerName t c =
    passed_on _ _ c.from_residual.result c.from_residual.ensures.1
    (refused_pattern c.args.depth _ (stands c.in-Some.ensures.some c.in-LowerName.is) refl
    c.in_err-name-in-LowerName.ensures.refused)

pub pattern-returns-in_err-number-in-Number : goal.pattern-returns-in_err-number-in-Number
pattern-returns-in_err-number-in-Number t c =
    passed_on _ _ c.from_residual-in_err-number-in-Number.result c.from_residual-in_err-number-in-Number.ensures.1
    (refused_pattern c.args.depth _ (stands c.in-Some.ensures.some c.in-Number.is) refl
    c.in_err-number-in-Number.ensures.refused)

pub pattern-returns-in_err-literal-in-Text : goal.pattern-returns-in_err-literal-in-Text
pattern-returns-in_err-literal-in-Text t c =
    passed_on _ _ c.from_residual-in_err-literal-in-Text.result c.from_residual-in_err-literal-in-Text.ensures.1
    (refused_pattern c.args.depth _ (stands c.in-Some.ensures.some c.in-Text.is) refl
    c.in_err-literal-in-Text.ensures.refused)

pub pattern-returns-in_ok-intern-in-LowerName : goal.pattern-returns-in_ok-intern-in-LowerName
pattern-returns-in_ok-intern-in-LowerName t c =
    let takes = c.in_ok-name-in-LowerName.ensures.found in
    let named = c.in_ok-intern-in-LowerName.ensures in
    all_read (over_name {kind = lexeme.LowerName} (pattern_begins c.args.depth c.args.symbols.now takes refl) takes refl
    refl c.in_ok-name-in-LowerName.ensures.within named.names)
    (λ names more.
    ap (λ name. Binds c.in_ok-name-in-LowerName.name.place (Unresolved name))
    (symbol_kept c.args.symbols.now c.in_ok-intern-in-LowerName.field-0 named.symbol named.names names more)
    ∙ sym (binds_tree (lexed c.in_ok-name-in-LowerName.name) (c.args.depth + 1) takes.kind_is))

pub pattern-returns-in_ok-number-in-Number : goal.pattern-returns-in_ok-number-in-Number
pattern-returns-in_ok-number-in-Number t c =
    let number = c.in_ok-number-in-Number.ensures in
    all_read (over_token {kind = lexeme.Number} (pattern_begins c.args.depth c.args.symbols.now number.found refl)
    number.found refl refl number.within)
    (λ names more.
    ap (SameNumber c.in_ok-number-in-Number.number.place)
    (narrowed c.numeral.result _ c.numeral.ensures (number_fits number.found.kind_is number.well_formed))
    ∙ sym (number_tree (lexed c.in_ok-number-in-Number.number) (c.args.depth + 1) number.found.kind_is))

pub pattern-numeral-requires-clause-number : goal.pattern-numeral-requires-clause-number
pattern-numeral-requires-clause-number t c =
    number_digits c.in_ok-number-in-Number.ensures.found.kind_is c.in_ok-number-in-Number.ensures.well_formed

pub pattern-returns-in_ok-text-in-Text : goal.pattern-returns-in_ok-text-in-Text
pattern-returns-in_ok-text-in-Text t c =
    let takes = c.in_ok-literal-in-Text.ensures.found in
    all_read (over_token {kind = lexeme.Text} (pattern_begins c.args.depth c.args.symbols.now takes refl) takes refl
    refl c.in_ok-literal-in-Text.ensures.within)
    (λ names more. ap (SameString c.in_ok-literal-in-Text.literal.place) c.in_ok-text-in-Text.ensures
    ∙ sym (text_tree (lexed c.in_ok-literal-in-Text.literal) (c.args.depth + 1) takes.kind_is))

pub pattern-returns-in-Keyword : goal.pattern-returns-in-Keyword
pattern-returns-in-Keyword t c =
    refused_no_pattern c.args.depth _ c.wrong-in-Keyword.ensures c.in-Some.ensures.some
    (sym (keywords_do_not c.in-Keyword.is c.in-Some.first.slice.now))

pub constructor_pattern-returns-in_err-name : goal.constructor_pattern-returns-in_err-name
constructor_pattern-returns-in_err-name t c =
    passed_on _ _ c.from_residual.result c.from_residual.ensures.1
    (refused_inside (opens (One Pattern) c.args.depth c.args.symbols.now (spot c.args.from) _
    (constructor_opened _ c.args.depth c.requires.begins)) _ c.in_err-name.ensures.refused)

pub constructor_pattern-returns-in_err-arguments : goal.constructor_pattern-returns-in_err-arguments
constructor_pattern-returns-in_err-arguments t c =
    let takes = c.in_ok-name.ensures.found in
    passed_on _ _ c.from_residual-in_err-arguments.result c.from_residual-in_err-arguments.ensures.1
    (refused_inside (over_name {kind = lexeme.UpperName} (pattern_begins c.args.depth c.args.symbols.now takes refl)
    takes refl refl c.in_ok-name.ensures.within c.in_ok-constructor.ensures.names) _
    c.in_err-arguments.ensures)

pub constructor_pattern-returns : goal.constructor_pattern-returns
constructor_pattern-returns t c =
    let takes = c.in_ok-name.ensures.found in
    let named = c.in_ok-constructor.ensures in
    let found = c.in_ok-arguments.ensures in
    all_read (over_part (over_name {kind = lexeme.UpperName} (pattern_begins c.args.depth c.args.symbols.now takes refl)
    takes refl refl c.in_ok-name.ensures.within named.names) found)
    (λ names more.
    pattern_tree-built names c.in_ok-name.name.place c.in_ok-constructor.constructor c.in_ok-arguments.arguments
    ∙ (ap (λ (name : List ℕ). Built c.in_ok-name.name.place name
    (pattern_trees names c.in_ok-arguments.arguments.items))
    (symbol_kept c.args.symbols.now c.in_ok-constructor.constructor named.symbol named.names names
    (goes_on_further (found_goes_on found) more))
    ∙ (ap (Built c.in_ok-name.name.place c.in_ok-name.name.slice.now) (found.is names more)
    ∙ sym (built_tree (lexed c.in_ok-name.name) (c.args.depth + 1) (Optional PatternArguments) found.inside
    takes.kind_is))))

pub pattern_arguments-returns-in_default : goal.pattern_arguments-returns-in_default
pattern_arguments-returns-in_default t c =
    all_read (opens (Optional PatternArguments) c.args.depth c.args.symbols.now (spot c.args.from) _
    (parentheses_left_out pattern_arguments _ c.args.depth c.in_default.ensures.other))
    (λ names more. ap (pattern_trees names) c.new.ensures.items)

pub pattern_arguments-returns-in-Some-accept : goal.pattern_arguments-returns-in-Some-accept
pattern_arguments-returns-in-Some-accept t c =
    let close = c.in-Some-accept.ensures.found in
    let none = nothing_between pattern_arguments c.args.depth c.args.symbols.now close in
    let so = over_part (parenthesis_read_maybe pattern_arguments c.args.depth c.args.symbols.now c.in-Some.ensures.found
    c.requires.depth) none in
    all_read (over_token {kind = lexeme.Punctuator punctuator.CloseParen} so close refl refl c.requires.depth)
    (λ names more. ap (pattern_trees names) c.new-in-Some-accept.ensures.items
    ∙ sym (ap patterns_maybe (none.is names more)))

pub pattern_arguments-returns-in_err-patterns : goal.pattern_arguments-returns-in_err-patterns
pattern_arguments-returns-in_err-patterns t c =
    passed_on _ _ c.from_residual.result c.from_residual.ensures.1
    (refused_between list_of_patterns _
    (parenthesis_read_maybe pattern_arguments c.args.depth c.args.symbols.now c.in-Some.ensures.found c.requires.depth)
    c.in_default-accept.ensures.other c.in_err-patterns.ensures)

pub pattern_arguments-returns-in_err-end : goal.pattern_arguments-returns-in_err-end
pattern_arguments-returns-in_err-end t c =
    passed_on _ _ c.from_residual-in_err-end.result c.from_residual-in_err-end.ensures.1 (refused_inside
    (over_part (parenthesis_read_maybe pattern_arguments c.args.depth c.args.symbols.now c.in-Some.ensures.found
    c.requires.depth) (maybe_found list_of_patterns c.in_ok-patterns.ensures)) _
    c.in_err-end.ensures.refused)

pub pattern_arguments-returns : goal.pattern_arguments-returns
pattern_arguments-returns t c =
    let patterns = c.in_ok-patterns.ensures in
    let maybe = maybe_found list_of_patterns patterns in
    let so = over_part (parenthesis_read_maybe pattern_arguments c.args.depth c.args.symbols.now c.in-Some.ensures.found
    c.requires.depth) maybe in
    all_read (over_token {kind = lexeme.Punctuator punctuator.CloseParen} so c.in_ok-end.ensures.found refl refl
    c.requires.depth)
    (λ names more. patterns.is names more ∙ sym (ap patterns_maybe (maybe.is names more)))

pub patterns-returns-in_err-first : goal.patterns-returns-in_err-first
patterns-returns-in_err-first t c =
    passed_on _ _ c.from_residual.result c.from_residual.ensures.1
    (refused_first list_of_patterns c.args.depth (spot c.args.from) _ c.in_err-first.ensures)

pub patterns-pattern-requires-in-Some : goal.patterns-pattern-requires-in-Some
patterns-pattern-requires-in-Some t c =
    let few = c.loop-after.invariant.read.read.few in
    let shorter = c.loop-after.invariant.read.read.shorter in
    let comma = token_shorter c.in-Some.ensures.found.takes in
    (search rules, (omega arith, c.requires.depth))

pub patterns-returns-in_err-next : goal.patterns-returns-in_err-next
patterns-returns-in_err-next t c =
    passed_on _ _ c.from_residual-in_err-next.result c.from_residual-in_err-next.ensures.1
    (refused_next c.loop-after.invariant.read c.in-Some.ensures.found c.requires.depth _ c.in_err-next.ensures)

pub patterns-loop-after-smaller : goal.patterns-loop-after-smaller
patterns-loop-after-smaller t c =
    let comma = token_shorter c.in-Some.ensures.found.takes in
    let next = found_shorter c.in_ok-next.ensures in
    omega arith

pub patterns-loop-after-init : goal.patterns-loop-after-init
patterns-loop-after-init t c = record {
  read = first_so_far list_of_patterns trees_of_patterns c.in_ok-patterns.ensures.items c.in_ok-first.ensures;
}

pub patterns-loop-after-preserved : goal.patterns-loop-after-preserved
patterns-loop-after-preserved t c =
    record {
      read = next_so_far c.loop-after.invariant.read c.in_ok-push.ensures.items c.in-Some.ensures.found
          c.requires.depth c.in_ok-next.ensures;
    }

pub patterns-returns : goal.patterns-returns
patterns-returns t c = all_so_far c.loop-after.invariant.read c.in_default.ensures.other
