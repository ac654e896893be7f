use Rattle.std.proofs.Common.{◌≡◌, ◌∙◌, ap, Option, arith}
use Rattle.std.specs.Option.{option_or}
use Rattle.abs_lexer.specs.declared.lexeme.Keyword.{Keyword}
use Rattle.abs_lexer.specs.Words.{declaration_keywords, expression_keywords, statement_keywords, keyword_among}
use Rattle.abs_lexer.proofs.WordLemmas.{among_three}
use Rattle.abs_lexer.proofs.word.keyword.Goals as goal

pub returns : goal.returns
returns c =
    let word = c.args.word.now in
    let two : c.or_else.result ≡ option_or (keyword_among declaration_keywords word)
    (keyword_among expression_keywords word) = grind arith in
    let three : c.or_else-2.result ≡ option_or c.or_else.result (keyword_among statement_keywords word) = grind arith in
    three ∙ (ap (λ (found : Option Keyword). option_or found (keyword_among statement_keywords word)) two
    ∙ among_three declaration_keywords expression_keywords statement_keywords word)
