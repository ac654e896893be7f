-- Which tokens a nonterminal may begin with, by the token's lexeme alone, however the token is written. The keywords
-- and punctuators that begin it are listed. An element of a list passes each test that all elements pass, and a value
-- that is not in the list is not found there.
use Rattle.std.proofs.Common.{◌≡◌, ℕ, Bool, true, false, cond, List, [], ◌∷◌, refl, sym, ap, ◌∙◌}
use Rattle.std.proofs.lemmas.Bool.{and_parts}
use Rattle.std.specs.List.{list_all, list_any}
use Rattle.std.specs.Prelude.{⊤, codes}
use Rattle.std.specs.Str.{bytes_eq}
use mathlib.Core.Logic.{◌⊎◌, inl, inr}
use denote.Enum.Bare.{Bare, sameb, false_same}
use denote.Enum.Declared.{Declared}
use Rattle.abs_lexer.specs.declared.lexeme.Lexeme.{Lexeme}
use Rattle.abs_lexer.specs.declared.lexeme.Lexeme.TheVariants as lexeme
use Rattle.abs_lexer.specs.Tokens.{Lexed}
use Rattle.abs_parser.specs.TokenKinds.{token_kind_of, LowerName, LocalName, UpperName, AbsName, StdLibName, next}
use Rattle.abs_parser.specs.Productions.{Nonterminal, begins}
use Rattle.abs_parser.specs.ReaderAnswers.{left_at, asked}
use Rattle.abs_parser.specs.Tokens.{Spot, TakesToken}
use Rattle.abs_parser.proofs.reader.StepLemmas.{next_is}

-- A nonterminal begins with just the tokens whose lexeme passes a test, and with all names of a lexeme or with none.
pub record BeginsBy (nonterminal : Nonterminal) (test : Lexeme → Bool) : Type 0 where
  pub reported : (kind : Lexeme) → test kind ≡ begins nonterminal (asked kind)
  pub local_too : begins nonterminal LowerName ≡ begins nonterminal LocalName
  pub abs_too : begins nonterminal UpperName ≡ begins nonterminal AbsName
  pub library_too : begins nonterminal UpperName ≡ begins nonterminal StdLibName

-- a nonterminal begins with all lower-case names or with none
lower_alike : {nonterminal : Nonterminal} {test : Lexeme → Bool} → BeginsBy nonterminal test → (is_local : Bool)
    → begins nonterminal LowerName ≡ begins nonterminal (cond is_local LocalName LowerName)
lower_alike by true = by.local_too
lower_alike by false = refl

-- a nonterminal begins with all upper-case names or with none
upper_alike : {nonterminal : Nonterminal} {test : Lexeme → Bool} → BeginsBy nonterminal test
    → (is_abs is_library : Bool)
    → begins nonterminal UpperName ≡ begins nonterminal (cond is_abs AbsName (cond is_library StdLibName UpperName))
upper_alike by true is_library = by.abs_too
upper_alike by false true = by.library_too
upper_alike by false false = refl

-- the test decides whether the nonterminal may begin with a token, however the token is written
pub begins_by_kind : {nonterminal : Nonterminal} {test : Lexeme → Bool} → BeginsBy nonterminal test
    → (kind : Lexeme) (bytes : List ℕ) → test kind ≡ begins nonterminal (token_kind_of kind bytes)
begins_by_kind by lexeme.LowerName bytes = by.reported lexeme.LowerName ∙ lower_alike by (bytes_eq bytes (codes "local"))
begins_by_kind by lexeme.UpperName bytes =
    by.reported lexeme.UpperName ∙ upper_alike by (bytes_eq bytes (codes "ABS")) (bytes_eq bytes (codes "StdLib"))
begins_by_kind by lexeme.Number bytes = by.reported lexeme.Number
begins_by_kind by lexeme.Text bytes = by.reported lexeme.Text
begins_by_kind by (lexeme.Keyword keyword) bytes = by.reported (lexeme.Keyword keyword)
begins_by_kind by lexeme.Foreign bytes = by.reported lexeme.Foreign
begins_by_kind by (lexeme.Punctuator punctuator) bytes = by.reported (lexeme.Punctuator punctuator)

-- the answer of the test for a known lexeme holds for each token of that lexeme
pub begins_as : {nonterminal : Nonterminal} {test : Lexeme → Bool} {kind : Lexeme} → BeginsBy nonterminal test
    → (known : Lexeme) {answer : Bool} → kind ≡ known → answer ≡ test known
    → (bytes : List ℕ) → answer ≡ begins nonterminal (token_kind_of kind bytes)
begins_as {test = test} by known is answers bytes = answers ∙ (ap test (sym is) ∙ begins_by_kind by _ bytes)

-- the answer of the test for a known lexeme holds for the next token, if it has that lexeme
pub begins_next : {nonterminal : Nonterminal} {test : Lexeme → Bool} {token : Lexed} {from after : Spot}
    → BeginsBy nonterminal test → (known : Lexeme) {answer : Bool} → TakesToken token from after
    → token.kind ≡ known → answer ≡ test known → answer ≡ begins nonterminal (next (left_at from))
begins_next {nonterminal} {token = token} by known takes is answers =
    begins_as by known is answers token.bytes ∙ sym (ap (begins nonterminal) (next_is takes))

-- the lexemes of names, numbers and strings
abbrev pub plain_kinds : List Lexeme
plain_kinds = lexeme.Number ∷ lexeme.Text ∷ lexeme.LowerName ∷ lexeme.UpperName ∷ []

-- the value is one of a list
abbrev pub IsOneOf : {X : Type 0} → List X → X → Type 0
IsOneOf [] x = ⊥
IsOneOf (last ∷ []) x = x ≡ last
IsOneOf (first ∷ second ∷ others) x = (x ≡ first) ⊎ IsOneOf (second ∷ others) x

-- the value is none of a list
abbrev pub IsNoneOf : {X : Type 0} → List X → X → Type 0
IsNoneOf [] x = ⊤
IsNoneOf (first ∷ others) x = (x ≡ first → ⊥) × IsNoneOf others x

-- an element of a list passes a test that all elements pass
pub one_passes : {X : Type 0} (test : X → Bool) (list : List X) {x : X} → list_all test list ≡ true → IsOneOf list x
    → true ≡ test x
one_passes test [] all one = absurd one
one_passes test (last ∷ []) all same = sym (ap test same ∙ (and_parts (test last) true all).0)
one_passes test (first ∷ second ∷ others) all (inl same) =
    sym (ap test same ∙ (and_parts (test first) (list_all test (second ∷ others)) all).0)
one_passes test (first ∷ second ∷ others) all (inr one) =
    one_passes test (second ∷ others) (and_parts (test first) (list_all test (second ∷ others)) all).1 one

-- a value of an enum without fields that is none of a list is not found in the list
pub none_found : (D : Declared) → Bare D.parts → (list : List D.D) (x : D.D) → IsNoneOf list x
    → false ≡ list_any (sameb D x) list
none_found D bare [] x none = refl
none_found D bare (first ∷ others) x none = rw (false_same D bare x first none.0) (none_found D bare others x none.1)
