-- The forms of tokens and of comments, each as a whole piece of the source.
--   name          a letter, then letters, digits and "_"
--   number        digits
--   string        `"`, then bytes other than `"`, `\` and line feed, or `\` and a byte other than line feed, then `"`
--   punctuator    as it is written
--   comment       "//" up to the end of the line, or "/*" up to the next "*/"
-- Tokens.antt restricts the escapes of a string and the size of a number further.
--
--   `IsForm`                                   a piece has the form of a token
--   `IsName`, `IsNumber`, `IsQuoted`           the forms of names, of numbers and of strings
--   `IsComment`, `opens_comment`               comments, and where one begins
--   `is_white`, `is_escape`, ..                classes of bytes
use Rattle.std.specs.Prelude.{◌≡◌, ℕ, ◌<◌, ◌==◌, ◌||◌, Bool, true, not, ⊤, List, [], ◌∷◌, ◌++◌, length, take, codes}
use Rattle.std.specs.Char.{is_ascii_alphanumeric, is_ascii_digit, is_ascii_lowercase, is_ascii_uppercase}
use Rattle.std.specs.List.{AllPass}
use Rattle.std.specs.Str.{bytes_eq}
use Rattle.abs_lexer.specs.declared.lexeme.Lexeme.{Lexeme}
use Rattle.abs_lexer.specs.declared.lexeme.Lexeme.TheVariants.{UpperName, Number, Text, Punctuator as PunctuatorLexeme}
use Rattle.abs_lexer.specs.declared.lexeme.Punctuator.{Punctuator}
use Rattle.abs_lexer.specs.Words.{word_kind, punctuator_bytes}

-- white space: space, tab, carriage return and line feed
abbrev pub is_white : ℕ → Bool
is_white byte = byte == 32 || byte == 9 || byte == 13 || byte == 10

-- the bytes of a name after its first one
abbrev pub is_word : ℕ → Bool
is_word byte = is_ascii_alphanumeric byte || byte == 95

-- all bytes but the line feed: these may follow a `\` in a string, and `n`, `t`, `r`, `"` and `\` make escapes there
abbrev pub is_on_line : ℕ → Bool
is_on_line byte = not (byte == 10)

abbrev pub is_escape : ℕ → Bool
is_escape byte = byte == 110 || byte == 116 || byte == 114 || byte == 34 || byte == 92

-- the bytes that denote themselves in a string: all but `"`, `\` and line feed
abbrev pub is_plain : ℕ → Bool
is_plain byte = not (byte == 34 || byte == 92 || byte == 10)

-- a name whose first byte is in this class
pub record IsName (is_first : ℕ → Bool) (piece : List ℕ) : Type 0 where
  pub first : ℕ
  pub others : List ℕ
  pub is : piece ≡ first ∷ others
  pub letter : is_first first ≡ true
  pub word : AllPass is_word others

-- one digit or more
pub record IsNumber (piece : List ℕ) : Type 0 where
  pub some : 0 < length piece
  pub digits : AllPass is_ascii_digit piece

-- the bytes between the quotes of a string: plain bytes, and `\` followed by a byte that passes
pub data IsInside (passes : ℕ → Bool) : List ℕ → Type 0 where
  nothing : IsInside passes []
  plain : (byte : ℕ) (others : List ℕ) → is_plain byte ≡ true → IsInside passes others → IsInside passes (byte ∷ others)
  escaped : (byte : ℕ) (others : List ℕ) → passes byte ≡ true → IsInside passes others
      → IsInside passes (92 ∷ byte ∷ others)

-- a string with its quotes
pub record IsQuoted (passes : ℕ → Bool) (piece : List ℕ) : Type 0 where
  pub inside : List ℕ
  pub is : piece ≡ 34 ∷ (inside ++ 34 ∷ [])
  pub reads : IsInside passes inside

-- the piece has the form of a token of this kind
pub data IsForm (kind : Lexeme) (piece : List ℕ) : Type 0 where
  word : IsName is_ascii_lowercase piece → kind ≡ word_kind piece → IsForm kind piece
  upper : IsName is_ascii_uppercase piece → kind ≡ UpperName → IsForm kind piece
  number : IsNumber piece → kind ≡ Number → IsForm kind piece
  text : IsQuoted is_on_line piece → kind ≡ Text → IsForm kind piece
  sign : (punctuator : Punctuator) → piece ≡ punctuator_bytes punctuator → kind ≡ PunctuatorLexeme punctuator
      → IsForm kind piece

-- whether the bytes begin with "//" or "/*"
abbrev pub opens_comment : List ℕ → Bool
opens_comment bytes = bytes_eq (take 2 bytes) (codes "//") || bytes_eq (take 2 bytes) (codes "/*")

-- a line ends here: the next byte is a line feed, or the source ends
abbrev pub EndsLine : List ℕ → Type 0
EndsLine [] = ⊤
EndsLine (byte ∷ others) = byte ≡ 10

-- the piece occurs nowhere in the bytes
abbrev pub NowhereIn : List ℕ → List ℕ → Type 0
NowhereIn bytes piece = (front after : List ℕ) → bytes ≡ front ++ (piece ++ after) → ⊥

-- the piece is a comment, followed by these bytes
pub data IsComment (piece after : List ℕ) : Type 0 where
  line : (inside : List ℕ) → piece ≡ codes "//" ++ inside → AllPass is_on_line inside → EndsLine after
      → IsComment piece after
  block : (inside : List ℕ) → piece ≡ codes "/*" ++ (inside ++ codes "*/") → NowhereIn inside (codes "*/")
      → IsComment piece after
