-- The tokens of a source. At each point before its end, the bytes that are left begin with white space, a comment or a
-- token. A token is the longest prefix that has the form of one.
--
--   `Lexed`, `TokenList`                       a token, and the tokens of a source
--   `TokensOf`                                 a list is that of the source's tokens
--   `Lexes`, `Begins`                          how bytes are split into tokens
--   `IsLongest`, `IsSound`, `IsWellFormed`     when a piece is a token
--   `IsPieceAt`, `Rise`                        the places of tokens
use Rattle.std.specs.Prelude.{◌≡◌, ⊤, ℕ, ◌+◌, ◌^◌, ◌<◌, ◌≤◌, true, false, List, [], ◌∷◌, ◌++◌, length, IsUtf8}
use Rattle.std.specs.Str.Parse.{digits_value}
use Rattle.abs_tree.specs.declared.place.Place.{Place}
use Rattle.abs_tree.specs.Places.{start, place_after}
use Rattle.abs_lexer.specs.declared.lexeme.Lexeme.{Lexeme}
use Rattle.abs_lexer.specs.declared.lexeme.Lexeme.TheVariants.{LowerName, UpperName, Number, Text, Keyword as KeywordLexeme, Foreign, Punctuator as PunctuatorLexeme}
use Rattle.abs_lexer.specs.Forms.{is_white, is_escape, IsQuoted, IsForm, opens_comment, IsComment}

-- a token of a source: its kind, the place of its first byte, and its bytes
pub record Lexed : Type 0 where
  pub kind : Lexeme
  pub place : Place
  pub bytes : List ℕ

-- the tokens of a source, and the place after its last byte
pub record TokenList : Type 0 where
  pub tokens : List Lexed
  pub end : Place

-- The piece has the form of a token of this kind. No other prefix of the bytes with the form of a token is longer.
pub record IsLongest (kind : Lexeme) (piece after : List ℕ) : Type 0 where
  pub form : IsForm kind piece
  pub longest : (other : Lexeme) (longer more : List ℕ) → piece ++ after ≡ longer ++ more → IsForm other longer
      → length longer ≤ length piece

-- A number has at most 127 bits. A string is UTF-8, and each `\` in it begins an escape.
abbrev pub IsSound : Lexeme → List ℕ → Type 0
IsSound LowerName piece = ⊤
IsSound UpperName piece = ⊤
IsSound Number piece = digits_value 10 piece < 2 ^ 127
IsSound Text piece = IsQuoted is_escape piece × IsUtf8 piece
IsSound (KeywordLexeme keyword) piece = ⊤
IsSound Foreign piece = ⊤
IsSound (PunctuatorLexeme punctuator) piece = ⊤

-- The bytes at a place begin with this piece, and the rest follows it. White space or a comment gives no token, and a
-- token gives itself.
pub data Begins (place : Place) (piece after : List ℕ) : List Lexed → Type 0 where
  white : (byte : ℕ) → piece ≡ byte ∷ [] → is_white byte ≡ true → Begins place piece after []
  comment : IsComment piece after → IsUtf8 piece → Begins place piece after []
  lexeme : (kind : Lexeme) → opens_comment (piece ++ after) ≡ false → IsLongest kind piece after → IsSound kind piece
      → Begins place piece after (record { kind = kind; place = place; bytes = piece } ∷ [])

-- the tokens of bytes that begin at this place
pub data Lexes : Place → List ℕ → List Lexed → Type 0 where
  end : (place : Place) (bytes : List ℕ) → bytes ≡ [] → Lexes place bytes []
  more : (place : Place) (bytes piece after : List ℕ) (front others tokens : List Lexed) → bytes ≡ piece ++ after
      → Begins place piece after front
      → Lexes (place_after place piece) after others → tokens ≡ front ++ others → Lexes place bytes tokens

-- the list of a source's tokens
pub record TokensOf (source : List ℕ) (list : TokenList) : Type 0 where
  pub tokens : Lexes start source list.tokens
  pub end : list.end ≡ place_after start source

-- the bytes of a token are the piece of the source at its place
pub record IsPieceAt (source : List ℕ) (token : Lexed) : Type 0 where
  pub front : List ℕ
  pub after : List ℕ
  pub is : source ≡ front ++ (token.bytes ++ after)
  pub place : token.place ≡ place_after start front

-- Tokens that are not empty, between these offsets. Each begins where the one before it ends, or later.
abbrev pub Rise : ℕ → List Lexed → ℕ → Type 0
Rise low [] high = low ≤ high
Rise low (token ∷ others) high =
    (low ≤ token.place.offset) × (0 < length token.bytes) × Rise (token.place.offset + length token.bytes) others high

-- a token has the form of its kind, and is sound
pub record IsWellFormed (token : Lexed) : Type 0 where
  pub form : IsForm token.kind token.bytes
  pub sound : IsSound token.kind token.bytes
