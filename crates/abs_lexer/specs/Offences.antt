-- The lexical offences of a source. Each has a place and a code, and the one with the least place is the first.
--   L1   a byte that begins no token; a `\` that begins no escape, in a string that ends; the first byte that is not
--        UTF-8, in a string or a comment that ends
--   L2   a comment that does not end
--   L3   a string that does not end on its line
--   L4   a number above 127 bits
--
--   `IsFirstLexical`                           an offence is the first one of a source
--   `Offends`, `OffendsAt`                     the offences of a source, and those of its first piece
--   `IsStray`, `IsOpenComment`, `IsOpenString` bytes that begin with an offence
--   `IsBadEscape`, `IsBroken`                  an offence inside a string or a comment
use Rattle.std.specs.Prelude.{◌≡◌, ℕ, ◌^◌, ◌≤◌, false, List, ◌∷◌, ◌++◌, length, codes}
use Rattle.std.specs.Str.{IsValidUpTo}
use Rattle.std.specs.Str.Parse.{digits_value}
use Rattle.abs_tree.specs.declared.place.Place.{Place}
use Rattle.abs_tree.specs.declared.refusal.Code.TheVariants.{L1, L2, L3, L4}
use Rattle.abs_tree.specs.declared.refusal.Offence.{Offence}
use Rattle.abs_tree.specs.Places.{start, place_after}
use Rattle.abs_lexer.specs.declared.lexeme.Lexeme.{Lexeme}
use Rattle.abs_lexer.specs.declared.lexeme.Lexeme.TheVariants.{Number}
use Rattle.abs_lexer.specs.Forms.{is_white, is_escape, is_on_line, IsInside, IsQuoted, IsForm, opens_comment, IsComment}
use Rattle.abs_lexer.specs.Tokens.{Lexed, IsLongest, Begins}

-- The first byte is not white space, and it begins no token. It does not open a string or a comment either.
pub record IsStray (bytes : List ℕ) : Type 0 where
  pub byte : ℕ
  pub others : List ℕ
  pub is : bytes ≡ byte ∷ others
  pub no_white : is_white byte ≡ false
  pub no_quote : byte ≡ 34 → ⊥
  pub no_comment : opens_comment bytes ≡ false
  pub no_token : (kind : Lexeme) (piece after : List ℕ) → bytes ≡ piece ++ after → IsForm kind piece → ⊥

-- The bytes begin with a comment that does not end.
pub record IsOpenComment (bytes : List ℕ) : Type 0 where
  pub inside : List ℕ
  pub is : bytes ≡ codes "/*" ++ inside
  pub endless : (piece after : List ℕ) → bytes ≡ piece ++ after → IsComment piece after → ⊥

-- The bytes begin with a string that does not end on its line.
pub record IsOpenString (bytes : List ℕ) : Type 0 where
  pub inside : List ℕ
  pub is : bytes ≡ 34 ∷ inside
  pub endless : (piece after : List ℕ) → bytes ≡ piece ++ after → IsQuoted is_on_line piece → ⊥

-- a `\` that begins no escape follows this prefix of a string
pub record IsBadEscape (piece front : List ℕ) : Type 0 where
  pub inside : List ℕ
  pub byte : ℕ
  pub others : List ℕ
  pub front_is : front ≡ 34 ∷ inside
  pub reads : IsInside is_on_line inside
  pub is : piece ≡ front ++ 92 ∷ byte ∷ others
  pub bad : is_escape byte ≡ false

-- this prefix of a piece is the longest one that is UTF-8, and it is not the whole piece
pub record IsBroken (piece front : List ℕ) : Type 0 where
  pub after : List ℕ
  pub is : piece ≡ front ++ after
  pub longest : IsValidUpTo piece (length front)

-- the offences of the first piece of bytes that begin at this place
pub data OffendsAt (place : Place) (bytes : List ℕ) : Offence → Type 0 where
  stray_byte : IsStray bytes → OffendsAt place bytes (record { code = L1; place = place })
  open_comment : IsOpenComment bytes → OffendsAt place bytes (record { code = L2; place = place })
  open_string : IsOpenString bytes → OffendsAt place bytes (record { code = L3; place = place })
  large_number : (piece after : List ℕ) → bytes ≡ piece ++ after → IsLongest Number piece after
      → 2 ^ 127 ≤ digits_value 10 piece
      → OffendsAt place bytes (record { code = L4; place = place })
  bad_escape : (piece after front : List ℕ) → bytes ≡ piece ++ after → IsQuoted is_on_line piece
      → IsBadEscape piece front
      → OffendsAt place bytes (record { code = L1; place = place_after place front })
  broken_string : (piece after front : List ℕ) → bytes ≡ piece ++ after → IsQuoted is_on_line piece
      → IsBroken piece front
      → OffendsAt place bytes (record { code = L1; place = place_after place front })
  broken_comment : (piece after front : List ℕ) → bytes ≡ piece ++ after → IsComment piece after → IsBroken piece front
      → OffendsAt place bytes (record { code = L1; place = place_after place front })

-- the offences of bytes that begin at this place: those of the first piece, or those of the rest if that piece has none
pub data Offends : Place → List ℕ → Offence → Type 0 where
  here : (place : Place) (bytes : List ℕ) (offence : Offence) → OffendsAt place bytes offence
      → Offends place bytes offence
  later : (place : Place) (bytes piece after : List ℕ) (front : List Lexed) (offence : Offence) → bytes ≡ piece ++ after
      → Begins place piece after front
      → Offends (place_after place piece) after offence → Offends place bytes offence

-- an offence of a source, and none comes before it
pub record IsFirstLexical (source : List ℕ) (offence : Offence) : Type 0 where
  pub offends : Offends start source offence
  pub least : (other : Offence) → Offends start source other → offence.place.offset ≤ other.place.offset
