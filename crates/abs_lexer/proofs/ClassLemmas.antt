-- The first byte decides which form the bytes can begin with: each form begins with a byte of one class. For each class
-- the scanner knows what to look for.
use Rattle.std.proofs.Common.{◌≡◌, ℕ, ◌==◌, ◌||◌, Bool, true, false, cond, List, [], ◌∷◌, ◌++◌, refl, sym, ap, subst, ◌∙◌, arith}
use Rattle.std.proofs.lemmas.Bool.Decides.{nat_tests}
use Rattle.std.specs.Char.{is_ascii_digit, is_ascii_lowercase, is_ascii_uppercase}
use Rattle.std.specs.Prelude.{slice_index}
use Rattle.abs_lexer.specs.declared.lexeme.Lexeme.{Lexeme}
use Rattle.abs_lexer.specs.declared.lexeme.Lexeme.TheVariants.{UpperName, Number, Text, Punctuator as PunctuatorLexeme}
use Rattle.abs_lexer.specs.declared.lexeme.Punctuator.{Punctuator}
use Rattle.abs_lexer.specs.declared.lexeme.Punctuator.TheVariants as punctuator
use Rattle.abs_lexer.specs.declared.piece.Piece.{Piece}
use Rattle.abs_lexer.specs.declared.piece.Piece.TheVariants.{Blank}
use Rattle.abs_lexer.specs.Words.{word_kind, punctuator_bytes}
use Rattle.abs_lexer.specs.Forms.{is_white, is_on_line, IsName, IsNumber, IsQuoted, IsForm, opens_comment}
use Rattle.abs_lexer.specs.Forms.IsForm.{word as form_word, upper as form_upper, number as form_number, text as form_text, sign as form_sign}
use Rattle.abs_lexer.proofs.EndLemmas.{two_in_front}
use Rattle.abs_lexer.specs.Scans.{string_at, number_at, word_at, upper_at, opens_line, line_at, opens_block, block_at, punctuator_at, piece_at}
use Rattle.std.proofs.lemmas.Bool.{false_from_ne_true}

-- white space, the quote of a string, a digit, a letter of either case, and all other bytes, called marks
pub data Class : Type 0 where
  White : Class
  Quote : Class
  Digit : Class
  Lower : Class
  Upper : Class
  Mark : Class

abbrev class_by : Bool → Bool → Bool → Bool → Bool → Class
class_by true quote digit lower upper = White
class_by false true digit lower upper = Quote
class_by false false true lower upper = Digit
class_by false false false true upper = Lower
class_by false false false false true = Upper
class_by false false false false false = Mark

abbrev pub class_of : ℕ → Class
class_of byte = class_by (is_white byte) (byte == 34) (is_ascii_digit byte) (is_ascii_lowercase byte)
    (is_ascii_uppercase byte)

-- the piece at bytes of each class
abbrev pub mark_at : List ℕ → Piece
mark_at bytes = cond (opens_line bytes) (line_at bytes)
    (cond (opens_block bytes) (block_at bytes) (punctuator_at bytes))

abbrev pub piece_by : Class → List ℕ → Piece
piece_by White bytes = Blank 1
piece_by Quote bytes = string_at bytes
piece_by Digit bytes = number_at bytes
piece_by Lower bytes = word_at bytes
piece_by Upper bytes = upper_at bytes
piece_by Mark bytes = mark_at bytes

nest : (w q d l u : Bool) (bytes : List ℕ)
    → cond w (Blank 1) (cond q (string_at bytes)
    (cond d (number_at bytes) (cond l (word_at bytes) (cond u (upper_at bytes) (mark_at bytes)))))
    ≡ piece_by (class_by w q d l u) bytes
nest true q d l u bytes = refl
nest false true d l u bytes = refl
nest false false true l u bytes = refl
nest false false false true u bytes = refl
nest false false false false true bytes = refl
nest false false false false false bytes = refl

-- the scanner finds the piece of the class of the first byte
pub piece_class : (bytes : List ℕ) → piece_at bytes ≡ piece_by (class_of (slice_index bytes 0)) bytes
unfolding piece_at
piece_class bytes =
    let first = slice_index bytes 0 in
    nest (is_white first) (first == 34) (is_ascii_digit first) (is_ascii_lowercase first) (is_ascii_uppercase first)
    bytes

pub piece_of_class : (class : Class) (bytes : List ℕ) → class_of (slice_index bytes 0) ≡ class
    → piece_at bytes ≡ piece_by class bytes
piece_of_class class bytes h = piece_class bytes ∙ ap (λ (c : Class). piece_by c bytes) h

-- The class of the byte that each form begins with.
no_white_digit : (byte : ℕ) → is_ascii_digit byte ≡ true → is_white byte ≡ false
no_white_digit byte h = grind (arith, nat_tests)

no_quote_digit : (byte : ℕ) → is_ascii_digit byte ≡ true → (byte == 34) ≡ false
no_quote_digit byte h = grind (arith, nat_tests)

no_white_lower : (byte : ℕ) → is_ascii_lowercase byte ≡ true → is_white byte ≡ false
no_white_lower byte h = grind (arith, nat_tests)

no_quote_lower : (byte : ℕ) → is_ascii_lowercase byte ≡ true → (byte == 34) ≡ false
no_quote_lower byte h = grind (arith, nat_tests)

no_digit_lower : (byte : ℕ) → is_ascii_lowercase byte ≡ true → is_ascii_digit byte ≡ false
no_digit_lower byte h = grind (arith, nat_tests)

no_white_upper : (byte : ℕ) → is_ascii_uppercase byte ≡ true → is_white byte ≡ false
no_white_upper byte h = grind (arith, nat_tests)

no_quote_upper : (byte : ℕ) → is_ascii_uppercase byte ≡ true → (byte == 34) ≡ false
no_quote_upper byte h = grind (arith, nat_tests)

no_digit_upper : (byte : ℕ) → is_ascii_uppercase byte ≡ true → is_ascii_digit byte ≡ false
no_digit_upper byte h = grind (arith, nat_tests)

no_lower_upper : (byte : ℕ) → is_ascii_uppercase byte ≡ true → is_ascii_lowercase byte ≡ false
no_lower_upper byte h = grind (arith, nat_tests)

pub class_white : (byte : ℕ) → is_white byte ≡ true → class_of byte ≡ White
class_white byte h = rw h refl

pub class_digit : (byte : ℕ) → is_ascii_digit byte ≡ true → class_of byte ≡ Digit
class_digit byte h = rw (no_white_digit byte h, no_quote_digit byte h, h) refl

pub class_lower : (byte : ℕ) → is_ascii_lowercase byte ≡ true → class_of byte ≡ Lower
class_lower byte h = rw (no_white_lower byte h, no_quote_lower byte h, no_digit_lower byte h, h) refl

pub class_upper : (byte : ℕ) → is_ascii_uppercase byte ≡ true → class_of byte ≡ Upper
class_upper byte h = rw (no_white_upper byte h, no_quote_upper byte h, no_digit_upper byte h, no_lower_upper byte h, h)
    refl

-- what is known of a byte by its class
abbrev pub TestOf : Class → Bool → Bool → Bool → Bool → Bool → Type 0
TestOf White w q d l u = w ≡ true
TestOf Quote w q d l u = q ≡ true
TestOf Digit w q d l u = d ≡ true
TestOf Lower w q d l u = l ≡ true
TestOf Upper w q d l u = u ≡ true
TestOf Mark w q d l u = (w ≡ false) × (q ≡ false)

tested : (w q d l u : Bool) → TestOf (class_by w q d l u) w q d l u
tested true q d l u = refl
tested false true d l u = refl
tested false false true l u = refl
tested false false false true u = refl
tested false false false false true = refl
tested false false false false false = (refl, refl)

pub test_of_class : (class : Class) (byte : ℕ) → class_of byte ≡ class
    → TestOf class (is_white byte) (byte == 34) (is_ascii_digit byte) (is_ascii_lowercase byte)
    (is_ascii_uppercase byte)
test_of_class class byte h =
    subst (λ (c : Class). TestOf c (is_white byte) (byte == 34) (is_ascii_digit byte) (is_ascii_lowercase byte)
    (is_ascii_uppercase byte)) h
    (tested (is_white byte) (byte == 34) (is_ascii_digit byte) (is_ascii_lowercase byte) (is_ascii_uppercase byte))

-- every punctuator begins with a mark
pub class_sign : (p : Punctuator) (after : List ℕ) → class_of (slice_index (punctuator_bytes p ++ after) 0) ≡ Mark
class_sign punctuator.OpenParen after = refl
class_sign punctuator.CloseParen after = refl
class_sign punctuator.OpenBrace after = refl
class_sign punctuator.CloseBrace after = refl
class_sign punctuator.Less after = refl
class_sign punctuator.Greater after = refl
class_sign punctuator.Comma after = refl
class_sign punctuator.Semicolon after = refl
class_sign punctuator.Dot after = refl
class_sign punctuator.Assign after = refl
class_sign punctuator.Equal after = refl
class_sign punctuator.NotEqual after = refl
class_sign punctuator.LessEqual after = refl
class_sign punctuator.GreaterEqual after = refl
class_sign punctuator.Plus after = refl
class_sign punctuator.Minus after = refl
class_sign punctuator.Star after = refl
class_sign punctuator.Slash after = refl
class_sign punctuator.Percent after = refl
class_sign punctuator.Not after = refl
class_sign punctuator.Tilde after = refl
class_sign punctuator.Question after = refl
class_sign punctuator.Bar after = refl
class_sign punctuator.Or after = refl
class_sign punctuator.And after = refl
class_sign punctuator.Arrow after = refl
class_sign punctuator.Underscore after = refl

-- the form of a piece that begins with a byte of this class
pub data FormOf (kind : Lexeme) (piece : List ℕ) : Class → Type 0 where
  word : IsName is_ascii_lowercase piece → kind ≡ word_kind piece → FormOf kind piece Lower
  upper : IsName is_ascii_uppercase piece → kind ≡ UpperName → FormOf kind piece Upper
  number : IsNumber piece → kind ≡ Number → FormOf kind piece Digit
  text : IsQuoted is_on_line piece → kind ≡ Text → FormOf kind piece Quote
  sign : (p : Punctuator) → piece ≡ punctuator_bytes p → kind ≡ PunctuatorLexeme p → FormOf kind piece Mark

-- the first byte of a name, of a number and of a string
pub first_of_name : {is_first : ℕ → Bool} {piece : List ℕ} (x : IsName is_first piece) (after : List ℕ)
    → slice_index (piece ++ after) 0 ≡ x.first
first_of_name x after = ap (λ (bytes : List ℕ). slice_index (bytes ++ after) 0) x.is

pub first_of_number : (piece after : List ℕ) → IsNumber piece → is_ascii_digit (slice_index (piece ++ after) 0) ≡ true
first_of_number [] after x = absurd (omega (arith, x.some))
first_of_number (byte ∷ others) after x = x.digits 0 0 (omega arith)

pub first_of_text : {passes : ℕ → Bool} {piece : List ℕ} (x : IsQuoted passes piece) (after : List ℕ)
    → slice_index (piece ++ after) 0 ≡ 34
first_of_text x after = ap (λ (bytes : List ℕ). slice_index (bytes ++ after) 0) x.is

-- a first piece with a form has the form for the class of its first byte
pub formed : {kind : Lexeme} {piece : List ℕ} (after : List ℕ) → IsForm kind piece
    → FormOf kind piece (class_of (slice_index (piece ++ after) 0))
formed {kind} {piece} after (form_word x e) =
    subst (λ (c : Class). FormOf kind piece c)
    (sym (ap class_of (first_of_name x after) ∙ class_lower x.first x.letter)) (word x e)
formed {kind} {piece} after (form_upper x e) =
    subst (λ (c : Class). FormOf kind piece c)
    (sym (ap class_of (first_of_name x after) ∙ class_upper x.first x.letter)) (upper x e)
formed {kind} {piece} after (form_number x e) =
    subst (λ (c : Class). FormOf kind piece c)
    (sym (class_digit (slice_index (piece ++ after) 0) (first_of_number piece after x))) (number x e)
formed {kind} {piece} after (form_text x e) =
    subst (λ (c : Class). FormOf kind piece c) (sym (ap class_of (first_of_text x after))) (text x e)
formed {kind} {piece} after (form_sign p is e) =
    subst (λ (c : Class). FormOf kind piece c)
    (sym (ap (λ (bytes : List ℕ). class_of (slice_index (bytes ++ after) 0)) is ∙ class_sign p after)) (sign p is e)

-- the same for bytes that begin with the piece
pub formed_in : {kind : Lexeme} {bytes : List ℕ} (piece after : List ℕ) {class : Class} → bytes ≡ piece ++ after
    → class_of (slice_index bytes 0) ≡ class → IsForm kind piece
    → FormOf kind piece class
formed_in {kind} {bytes} piece after {class} is c x =
    subst (λ (c : Class). FormOf kind piece c) (sym (ap (λ (bs : List ℕ). class_of (slice_index bs 0)) is) ∙ c)
    (formed after x)

-- a comment opens with "/", which is a mark
opened : (first second : Bool) (bytes : List ℕ) → (first ≡ true → slice_index bytes 0 ≡ 47)
    → (second ≡ true → slice_index bytes 0 ≡ 47) → (first || second) ≡ true
    → slice_index bytes 0 ≡ 47
opened true second bytes f g h = f refl
opened false true bytes f g h = g refl
opened false false bytes f g h = cc

pub first_of_comment : (bytes : List ℕ) → opens_comment bytes ≡ true → slice_index bytes 0 ≡ 47
first_of_comment bytes h =
    opened (opens_line bytes) (opens_block bytes) bytes
    (λ e. ap (λ (bs : List ℕ). slice_index bs 0) (two_in_front 47 47 bytes e))
    (λ e. ap (λ (bs : List ℕ). slice_index bs 0) (two_in_front 47 42 bytes e)) h

-- so bytes that do not begin with a mark open no comment
pub no_comment_opens : (bytes : List ℕ) → (class_of (slice_index bytes 0) ≡ Mark → ⊥) → opens_comment bytes ≡ false
no_comment_opens bytes h = false_from_ne_true (opens_comment bytes) (λ e. h (ap class_of (first_of_comment bytes e)))
