-- Readers that ask for a token kind: a token of another kind does not fit, so the wanted token is refused there. Two
-- keywords with the same spelling are equal, and so are two punctuators, since the lookup of a spelling finds just one.
use Rattle.std.proofs.Common.{◌≡◌, ℕ, Bool, true, false, Option, Some, None, List, [], ◌∷◌, ◌++◌, cond, refl, sym, ap, ◌∙◌}
use Rattle.std.proofs.lemmas.Slice.Eq.{bytes_eq-Decides}
use Rattle.std.specs.Prelude.{codes}
use Rattle.std.specs.Str.{bytes_eq}
use Rattle.abs_tree.specs.declared.place.Place.{Place}
use Rattle.abs_tree.specs.declared.refusal.Code.TheVariants.{S1}
use Rattle.abs_lexer.specs.declared.lexeme.Keyword.{Keyword}
use Rattle.abs_lexer.specs.declared.lexeme.Keyword.TheVariants as keyword
use Rattle.abs_lexer.specs.declared.lexeme.Lexeme.{Lexeme}
use Rattle.abs_lexer.specs.declared.lexeme.Lexeme.TheVariants as lexeme
use Rattle.abs_lexer.specs.declared.lexeme.Punctuator.{Punctuator}
use Rattle.abs_lexer.specs.declared.lexeme.Punctuator.TheVariants as punctuator
use Rattle.abs_lexer.specs.Words.{spelling, punctuator_bytes, keywords, keyword_among}
use Rattle.abs_lexer.specs.Scans.{punctuator_among, long_punctuators, short_punctuators}
use Rattle.abs_lexer.specs.Tokens.{Lexed}
use Rattle.abs_parser.specs.TokenKinds.{TokenKind, Token, TextEnd, LowerName, LocalName, UpperName, AbsName, StdLibName, Number, Text, KeywordKind, Foreign, PunctuatorKind, End, token_kind_of, token_kind, fits, next}
use Rattle.abs_parser.specs.Readings.{Wanted, Terminal}
use Rattle.abs_parser.specs.Refusing.{Other}
use Rattle.abs_parser.specs.ReaderAnswers.{asked, left_at, wrong_at, RefusedAt, IsRefused}
use Rattle.abs_parser.specs.Stops.{wrong_code}
use Rattle.abs_parser.specs.Tokens.{Spot, TakesToken}
use Rattle.abs_tree.specs.declared.source_error.SourceError.{SourceError}
use Rattle.abs_tree.specs.declared.source_error.SourceError.TheVariants.{Refused}

-- the lookup of a keyword's spelling finds that keyword
keyword_found : (which : Keyword) → keyword_among keywords (spelling which) ≡ Some which
keyword_found keyword.Module = refl
keyword_found _ = refl

-- two keywords with the same spelling are equal
spelled_alike : (a b : Keyword) → bytes_eq (spelling a) (spelling b) ≡ true → a ≡ b
spelled_alike a b alike =
    let same : spelling a ≡ spelling b = (bytes_eq-Decides (spelling a) (spelling b)).0 alike in
    let found : Some a ≡ Some b = sym (keyword_found a) ∙ (ap (keyword_among keywords) same ∙ keyword_found b) in
    cc

-- the lookup of a punctuator's bytes finds that punctuator
punctuator_is_among : (which : Punctuator)
    → punctuator_among (long_punctuators ++ short_punctuators) (punctuator_bytes which) ≡ Some which
punctuator_is_among punctuator.OpenParen = refl
punctuator_is_among _ = refl

-- two punctuators with the same bytes are equal
written_alike : (a b : Punctuator) → bytes_eq (punctuator_bytes a) (punctuator_bytes b) ≡ true → a ≡ b
written_alike a b alike =
    let same : punctuator_bytes a ≡ punctuator_bytes b =
    (bytes_eq-Decides (punctuator_bytes a) (punctuator_bytes b)).0 alike in
    let found : Some a ≡ Some b = sym (punctuator_is_among a)
    ∙ (ap (punctuator_among (long_punctuators ++ short_punctuators)) same ∙ punctuator_is_among b) in
    cc

-- a token kind that fits a keyword is that keyword
pub keyword_fits : (keyword : Keyword) (found : TokenKind) → fits (KeywordKind keyword) found ≡ true
    → found ≡ KeywordKind keyword
keyword_fits keyword (KeywordKind other) e = ap KeywordKind (sym (spelled_alike keyword other e))
keyword_fits keyword _ e = cc

-- a token kind that fits a punctuator is that punctuator
pub punctuator_fits : (punctuator : Punctuator) (found : TokenKind) → fits (PunctuatorKind punctuator) found ≡ true
    → found ≡ PunctuatorKind punctuator
punctuator_fits punctuator (PunctuatorKind other) e = ap PunctuatorKind (sym (written_alike punctuator other e))
punctuator_fits punctuator _ e = cc

-- the lexeme of a token kind; the end has none
lexeme_of : TokenKind → Option Lexeme
lexeme_of LowerName = Some lexeme.LowerName
lexeme_of LocalName = Some lexeme.LowerName
lexeme_of UpperName = Some lexeme.UpperName
lexeme_of AbsName = Some lexeme.UpperName
lexeme_of StdLibName = Some lexeme.UpperName
lexeme_of Number = Some lexeme.Number
lexeme_of Text = Some lexeme.Text
lexeme_of (KeywordKind keyword) = Some (lexeme.Keyword keyword)
lexeme_of Foreign = Some lexeme.Foreign
lexeme_of (PunctuatorKind punctuator) = Some (lexeme.Punctuator punctuator)
lexeme_of End = None

-- a lower-case name has the lexeme LowerName, whether it is `local` or not
lower_of : (is_local : Bool) → lexeme_of (cond is_local LocalName LowerName) ≡ Some lexeme.LowerName
unfolding lexeme_of
lower_of true = refl
lower_of false = refl

-- an upper-case name has the lexeme UpperName, whether it is `ABS`, `StdLib` or neither
upper_of : (is_abs is_library : Bool)
    → lexeme_of (cond is_abs AbsName (cond is_library StdLibName UpperName)) ≡ Some lexeme.UpperName
unfolding lexeme_of
upper_of true is_library = refl
upper_of false true = refl
upper_of false false = refl

-- the token kind of a token has the token's lexeme
of_token : (kind : Lexeme) (bytes : List ℕ) → lexeme_of (token_kind_of kind bytes) ≡ Some kind
unfolding lexeme_of
of_token lexeme.LowerName bytes = lower_of (bytes_eq bytes (codes "local"))
of_token lexeme.UpperName bytes = upper_of (bytes_eq bytes (codes "ABS")) (bytes_eq bytes (codes "StdLib"))
of_token lexeme.Number bytes = refl
of_token lexeme.Text bytes = refl
of_token (lexeme.Keyword keyword) bytes = refl
of_token lexeme.Foreign bytes = refl
of_token (lexeme.Punctuator punctuator) bytes = refl

-- a token kind that fits the one asked for by a lexeme has that lexeme
of_asked : (kind : Lexeme) (found : TokenKind) → fits (asked kind) found ≡ true → lexeme_of found ≡ Some kind
unfolding lexeme_of
of_asked lexeme.LowerName LowerName e = refl
of_asked lexeme.LowerName LocalName e = refl
of_asked lexeme.LowerName _ e = cc
of_asked lexeme.UpperName UpperName e = refl
of_asked lexeme.UpperName AbsName e = refl
of_asked lexeme.UpperName StdLibName e = refl
of_asked lexeme.UpperName _ e = cc
of_asked lexeme.Number Number e = refl
of_asked lexeme.Number _ e = cc
of_asked lexeme.Text Text e = refl
of_asked lexeme.Text _ e = cc
of_asked (lexeme.Keyword keyword) (KeywordKind other) e =
    ap (λ (found : Keyword). Some (lexeme.Keyword found)) (sym (spelled_alike keyword other e))
of_asked (lexeme.Keyword keyword) _ e = cc
of_asked lexeme.Foreign _ e = cc
of_asked (lexeme.Punctuator punctuator) (PunctuatorKind other) e =
    ap (λ (found : Punctuator). Some (lexeme.Punctuator found)) (sym (written_alike punctuator other e))
of_asked (lexeme.Punctuator punctuator) _ e = cc

-- a token with another lexeme does not fit the token kind that is asked for
pub other_kind : (kind : Lexeme) (token : Lexed) → (token.kind ≡ kind → ⊥)
    → fits (asked kind) (token_kind_of token.kind token.bytes) ≡ false
other_kind kind token differs = by (fits (asked kind) (token_kind_of token.kind token.bytes)) refl
  where
    by : (fit : Bool) → fits (asked kind) (token_kind_of token.kind token.bytes) ≡ fit → fit ≡ false
    by false e = refl
    by true e = absurd (differs (let same : Some token.kind ≡ Some kind =
        sym (of_token token.kind token.bytes) ∙ of_asked kind (token_kind_of token.kind token.bytes) e in cc))

-- the end does not fit a token kind that is asked for by a lexeme
pub end_is_other : (kind : Lexeme) → fits (asked kind) End ≡ false
end_is_other lexeme.LowerName = refl
end_is_other _ = refl

-- the wanted token is refused at the next token, where that does not fit
refused_at_first : (kind : TokenKind) (depth : ℕ) (items : List Wanted) (rest : List Lexed) (end : Place)
    → fits kind (next (left_at (record { rest = rest; end = end }))) ≡ false
    → RefusedAt (Terminal kind depth ∷ items) (left_at (record { rest = rest; end = end }))
    (wrong_at (record { rest = rest; end = end }))
refused_at_first kind depth items [] end unfit =
    record { mark = TextEnd end; after = []; code = S1; refuses = Other unfit refl; refusal_is = refl }
refused_at_first kind depth items (token ∷ others) end unfit = record {
  mark = Token token;
  after = left_at (record { rest = others; end = end });
  code = wrong_code (token_kind (Token token));
  refuses = Other unfit refl;
  refusal_is = refl;
}

-- where the next token does not fit, the wanted token is refused, whatever items follow it
pub other_refused : (kind : TokenKind) (from : Spot) (error : SourceError) → error ≡ Refused (wrong_at from)
    → fits kind (next (left_at from)) ≡ false
    → (depth : ℕ) → IsRefused (Terminal kind depth) from error
other_refused kind from error is unfit depth =
    λ items. rw is (refused_at_first kind depth items from.rest from.end unfit)

-- the next token does not fit where it has another lexeme
pub unfit_token : (kind : Lexeme) (token : Lexed) (from to : Spot) → TakesToken token from to → (token.kind ≡ kind → ⊥)
    → fits (asked kind) (next (left_at from)) ≡ false
unfit_token kind token from to takes differs = rw takes.rest (other_kind kind token differs)

-- the next token does not fit where the source ends
pub unfit_end : (kind : Lexeme) (from : Spot) → from.rest ≡ [] → fits (asked kind) (next (left_at from)) ≡ false
unfit_end kind from ends = rw ends (end_is_other kind)

-- a token kind that has a lexeme does not fit where the end is asked for
other_than_end : (found : TokenKind) {kind : Lexeme} → lexeme_of found ≡ Some kind → fits End found ≡ false
unfolding lexeme_of
other_than_end End is = cc
other_than_end _ is = refl

-- a token does not fit where the end is asked for
pub unfit_for_end : {token : Lexed} {from to : Spot} → TakesToken token from to → fits End (next (left_at from)) ≡ false
unfit_for_end {token} takes = rw takes.rest
    (other_than_end (token_kind_of token.kind token.bytes) (of_token token.kind token.bytes))
