-- The first piece of the bytes that are left, as the scanner finds it with one pass over the bytes for each form. This
-- file serves proofs only: no public clause cites it. FoundLemmas and OffenceLemmas show that it agrees with the
-- definitions of tokens and offences.
use Rattle.std.specs.Prelude.{ℕ, ◌+◌, ◌^◌, ◌==◌, Bool, nat_lt, min, List, [], ◌∷◌, length, take, drop, slice_index, codes, Option, Some, None, if◌then◌else◌}
use Rattle.std.specs.Char.{is_ascii_digit, is_ascii_lowercase, is_ascii_uppercase}
use Rattle.std.specs.List.{prefix_len}
use Rattle.std.specs.Str.{bytes_eq}
use Rattle.std.specs.Str.Lossy.{utf8_valid_len}
use Rattle.std.specs.Str.Parse.{digits_value}
use Rattle.abs_tree.specs.declared.refusal.Code.TheVariants.{L1, L2, L3, L4}
use Rattle.abs_lexer.specs.declared.lexeme.Lexeme.TheVariants.{UpperName, Number, Text, Punctuator as PunctuatorLexeme}
use Rattle.abs_lexer.specs.declared.lexeme.Punctuator.{Punctuator}
use Rattle.abs_lexer.specs.declared.lexeme.Punctuator.TheVariants as sign
use Rattle.abs_lexer.specs.declared.piece.Piece.{Piece}
use Rattle.abs_lexer.specs.declared.piece.Piece.TheVariants.{Blank, Token, Offence}
use Rattle.abs_lexer.specs.Words.{word_kind, punctuator_bytes}
use Rattle.abs_lexer.specs.Forms.{is_white, is_word, is_escape, is_on_line}

-- an index increased by this count, if there is one
abbrev pub increased_by : ℕ → Option ℕ → Option ℕ
increased_by count None = None
increased_by count (Some index) = Some (count + index)

unfoldable mutual
  -- after the quote that opens a string, the number of bytes before the one that closes it on the same line
  pub closing_quote : List ℕ → Option ℕ
  closing_quote [] = None
  closing_quote (byte ∷ others) =
      if byte == 34 then Some 0 else (if byte == 10 then None else
      (if byte == 92 then closing_after_escape others else increased_by 1 (closing_quote others)))

  -- after a `\` in a string, the number of bytes before the quote that closes it on the same line; the `\` counts too
  pub closing_after_escape : List ℕ → Option ℕ
  closing_after_escape [] = None
  closing_after_escape (byte ∷ others) = if byte == 10 then None else increased_by 2 (closing_quote others)

-- the number of bytes before the first `\` that begins no escape, or before the end
unfoldable pub bad_escape : List ℕ → ℕ
bad_escape [] = 0
bad_escape (byte ∷ []) = 1
bad_escape (byte ∷ next ∷ others) =
    if byte == 92 then (if is_escape next then 2 + bad_escape others else 0) else 1 + bad_escape (next ∷ others)

-- the number of bytes before the first "*/"
unfoldable pub block_end : List ℕ → Option ℕ
block_end [] = None
block_end (byte ∷ others) = if bytes_eq (take 2 (byte ∷ others)) (codes "*/") then Some 0 else increased_by 1
    (block_end others)

-- the offence L1 after this many bytes of a piece, or this result if the piece is no longer than that
abbrev pub checked_piece : Piece → ℕ → List ℕ → Piece
checked_piece sound at piece = if nat_lt at (length piece) then Offence L1 at else sound

-- the result for a string with its quotes
unfoldable pub string_checked : List ℕ → Piece
string_checked piece = checked_piece (Token Text (length piece)) (min (bad_escape piece) (utf8_valid_len piece)) piece

-- the result for a comment
unfoldable pub comment_checked : List ℕ → Piece
comment_checked piece = checked_piece (Blank (length piece)) (utf8_valid_len piece) piece

-- the piece that begins with a quote
abbrev pub string_closed : Option ℕ → List ℕ → Piece
string_closed None bytes = Offence L3 0
string_closed (Some count) bytes = string_checked (take (count + 2) bytes)

unfoldable pub string_at : List ℕ → Piece
string_at bytes = string_closed (closing_quote (drop 1 bytes)) bytes

-- the piece that begins with "//"
unfoldable pub line_at : List ℕ → Piece
line_at bytes = comment_checked (take (prefix_len is_on_line bytes) bytes)

-- the piece that begins with "/*"
abbrev pub block_closed : Option ℕ → List ℕ → Piece
block_closed None bytes = Offence L2 0
block_closed (Some count) bytes = comment_checked (take (count + 4) bytes)

unfoldable pub block_at : List ℕ → Piece
block_at bytes = block_closed (block_end (drop 2 bytes)) bytes

-- the piece that begins with a digit
unfoldable pub number_at : List ℕ → Piece
number_at bytes = let count = prefix_len is_ascii_digit bytes in
    if nat_lt (digits_value 10 (take count bytes)) (2 ^ 127) then Token Number count else Offence L4 0

-- the piece that begins with a lower-case letter, and with an upper-case one
unfoldable pub word_at : List ℕ → Piece
word_at bytes = let count = prefix_len is_word bytes in Token (word_kind (take count bytes)) count

unfoldable pub upper_at : List ℕ → Piece
upper_at bytes = Token UpperName (prefix_len is_word bytes)

-- the first of these punctuators that has these bytes
abbrev pub punctuator_among : List Punctuator → List ℕ → Option Punctuator
punctuator_among [] bytes = None
punctuator_among (punctuator ∷ others) bytes =
    if bytes_eq (punctuator_bytes punctuator) bytes then Some punctuator else punctuator_among others bytes

-- the punctuators of two bytes, and those of one
abbrev pub long_punctuators : List Punctuator
long_punctuators = sign.Equal ∷ sign.NotEqual ∷ sign.LessEqual ∷ sign.GreaterEqual ∷ sign.Or ∷ sign.And ∷ sign.Arrow
    ∷ []

abbrev pub short_punctuators : List Punctuator
short_punctuators =
    sign.OpenParen ∷ sign.CloseParen ∷ sign.OpenBrace ∷ sign.CloseBrace ∷ sign.Less ∷ sign.Greater ∷ sign.Comma
    ∷ sign.Semicolon ∷ sign.Dot ∷ sign.Assign ∷ sign.Plus ∷ sign.Minus ∷ sign.Star ∷ sign.Slash ∷ sign.Percent
    ∷ sign.Not
    ∷ sign.Tilde ∷ sign.Question ∷ sign.Bar ∷ sign.Underscore ∷ []

unfoldable pub long_punctuator : List ℕ → Option Punctuator
long_punctuator = punctuator_among long_punctuators

unfoldable pub short_punctuator : List ℕ → Option Punctuator
short_punctuator = punctuator_among short_punctuators

-- the piece that begins with any other byte
abbrev pub punctuator_piece : Option Punctuator → Option Punctuator → Piece
punctuator_piece (Some long) short = Token (PunctuatorLexeme long) 2
punctuator_piece None (Some short) = Token (PunctuatorLexeme short) 1
punctuator_piece None None = Offence L1 0

unfoldable pub punctuator_at : List ℕ → Piece
punctuator_at bytes = punctuator_piece (long_punctuator (take 2 bytes)) (short_punctuator (take 1 bytes))

-- whether the bytes begin with "//", and whether with "/*"
abbrev pub opens_line : List ℕ → Bool
opens_line bytes = bytes_eq (take 2 bytes) (codes "//")

abbrev pub opens_block : List ℕ → Bool
opens_block bytes = bytes_eq (take 2 bytes) (codes "/*")

-- the first piece of some bytes
unfoldable pub piece_at : List ℕ → Piece
piece_at bytes = let first = slice_index bytes 0 in
    if is_white first then Blank 1
    else (if first == 34 then string_at bytes
    else (if is_ascii_digit first then number_at bytes
    else (if is_ascii_lowercase first then word_at bytes
    else (if is_ascii_uppercase first then upper_at bytes
    else (if opens_line bytes then line_at bytes
    else (if opens_block bytes then block_at bytes
    else punctuator_at bytes))))))
