-- Which tokens a pattern may begin with, by the token's lexeme alone.
use Rattle.std.proofs.Common.{◌≡◌, ℕ, Bool, true, false, List, cond, refl}
use mathlib.Core.Logic.{◌⊎◌, inl, inr}
use denote.Enum.Bare.{sameb}
use Rattle.abs_lexer.specs.contracts.lexeme.Punctuator.{the_type}
use Rattle.abs_lexer.specs.declared.lexeme.Keyword.{Keyword}
use Rattle.abs_lexer.specs.declared.lexeme.Keyword.TheVariants as keyword
use Rattle.abs_lexer.specs.declared.lexeme.Lexeme.{Lexeme}
use Rattle.abs_lexer.specs.declared.lexeme.Lexeme.TheVariants as lexeme
use Rattle.abs_lexer.specs.declared.lexeme.Punctuator.TheVariants as punctuator
use Rattle.abs_parser.specs.TokenKinds.{token_kind_of}
use Rattle.abs_parser.specs.Productions.{begins, begins_within, Pattern}
use Rattle.abs_parser.specs.ReaderAnswers.{asked}
use Rattle.abs_parser.proofs.grammar.FirstTokens.{BeginsBy, begins_as}

-- whether a pattern may begin with a token of this lexeme
abbrev pub may_begin : Lexeme → Bool
may_begin (lexeme.Punctuator which) =
    cond (sameb the_type which punctuator.Underscore) true (sameb the_type which punctuator.Minus)
may_begin (lexeme.Keyword keyword) = false
may_begin lexeme.Foreign = false
may_begin _ = true

-- the test agrees with the grammar on each lexeme
may_begin_reported : (kind : Lexeme) → may_begin kind ≡ begins Pattern (asked kind)
unfolding begins begins_within
may_begin_reported (lexeme.Keyword keyword.Module) = refl
may_begin_reported (lexeme.Punctuator punctuator.OpenParen) = refl
may_begin_reported _ = refl

-- the test decides which tokens a pattern may begin with
pub first_kinds : BeginsBy Pattern may_begin
unfolding begins begins_within
first_kinds = record { reported = may_begin_reported; local_too = refl; abs_too = refl; library_too = refl }

-- no pattern begins with a keyword or a foreign word
pub keywords_do_not : {kind : Lexeme}
    → ((keyword : Keyword) × (kind ≡ lexeme.Keyword keyword)) ⊎ (kind ≡ lexeme.Foreign) → (bytes : List ℕ)
    → false ≡ begins Pattern (token_kind_of kind bytes)
keywords_do_not (inl (keyword, e)) = begins_as first_kinds (lexeme.Keyword keyword) e refl
keywords_do_not (inr e) = begins_as first_kinds lexeme.Foreign e refl
