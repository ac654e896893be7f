-- What it means that a result of the scanner describes the bytes, and that it does so for words, names and numbers.
use Rattle.std.proofs.Common.{◌≡◌, ℕ, suc, ◌^◌, ◌≤◌, Bool, true, false, cond, List, ◌∷◌, ◌++◌, length, take, drop, refl, sym, ap, subst, ◌∙◌, arith, length-take-le}
use Rattle.std.proofs.lemmas.Bool.Decides.{nat_tests}
use Rattle.std.proofs.lemmas.List.{take-append-drop}
use Rattle.std.proofs.lemmas.List.Elements.{All-cons, All-same}
use Rattle.std.specs.Char.{is_ascii_digit, is_ascii_lowercase, is_ascii_uppercase}
use Rattle.std.specs.List.{AllPass, prefix_len}
use Rattle.std.specs.Prelude.{Option, Some, None, IsUtf8, nat_lt}
use Rattle.std.specs.Str.Parse.{digits_value}
use Rattle.abs_tree.specs.declared.place.Place.{Place}
use Rattle.abs_tree.specs.declared.refusal.Code.{Code}
use Rattle.abs_tree.specs.declared.refusal.Code.TheVariants.{L4}
use Rattle.abs_tree.specs.Places.{place_after}
use Rattle.abs_lexer.specs.declared.lexeme.Keyword.{Keyword}
use Rattle.abs_lexer.specs.declared.lexeme.Lexeme.{Lexeme}
use Rattle.abs_lexer.specs.declared.lexeme.Lexeme.TheVariants.{UpperName, Number}
use Rattle.abs_lexer.specs.declared.piece.Piece.{Piece}
use Rattle.abs_lexer.specs.declared.piece.Piece.TheVariants.{Blank, Token, Offence}
use Rattle.abs_lexer.specs.Words.{keyword_among, keywords, is_foreign, kind_of_word, word_kind}
use Rattle.abs_lexer.specs.Forms.{is_white, is_word, IsName, IsNumber, IsForm, opens_comment, IsComment}
use Rattle.abs_lexer.specs.Forms.IsForm.{word as form_word, upper as form_upper, number as form_number}
use Rattle.abs_lexer.specs.Tokens.{IsLongest, IsSound}
use Rattle.abs_lexer.specs.Offences.{OffendsAt}
use Rattle.abs_lexer.specs.Offences.OffendsAt.{large_number}
use Rattle.abs_lexer.specs.Scans.{word_at, upper_at, number_at}
use Rattle.abs_lexer.proofs.ClassLemmas.{Class, Digit, Lower, Upper, Mark, class_of, test_of_class, FormOf, formed_in, no_comment_opens}
use Rattle.abs_lexer.proofs.ClassLemmas.FormOf.{word, upper, number}
use Rattle.list_facts.proofs.PrefixLemmas.{run_passes, run_over}
use Rattle.std.proofs.lemmas.List.Sums.{prefix_len-le-length}
use Rattle.std.proofs.lemmas.Bool.{ltb-true, ltb-false}

-- a result of the scanner describes what the bytes begin with
pub data Describes (bytes : List ℕ) : Piece → Type 0 where
  white : (byte : ℕ) (after : List ℕ) → bytes ≡ byte ∷ after → is_white byte ≡ true → Describes bytes (Blank 1)
  comment : (piece after : List ℕ) (count : ℕ) → bytes ≡ piece ++ after → IsComment piece after → IsUtf8 piece
      → count ≡ length piece → Describes bytes (Blank count)
  token : (kind : Lexeme) (piece after : List ℕ) (count : ℕ) → bytes ≡ piece ++ after → opens_comment bytes ≡ false
      → IsLongest kind piece after → IsSound kind piece
      → count ≡ length piece → Describes bytes (Token kind count)
  offence : (code : Code) (count : ℕ)
      → ((place : Place) → OffendsAt place bytes (record { code = code; place = place_after place (take count bytes) }))
      → count ≤ length bytes → Describes bytes (Offence code count)

-- a prefix with the form of a token is the longest one if no other such prefix is longer
pub longest_in : {kind : Lexeme} {bytes piece after : List ℕ} → bytes ≡ piece ++ after → IsForm kind piece
    → ((other : Lexeme) (longer more : List ℕ) → bytes ≡ longer ++ more → IsForm other longer
    → length longer ≤ length piece) → IsLongest kind piece after
longest_in is x f = record { form = x; longest = λ other longer more e y. f other longer more (is ∙ e) y }

-- a prefix whose bytes all pass is no longer than the run
pub longest_run : (p : ℕ → Bool) {bytes : List ℕ} (longer more : List ℕ) → bytes ≡ longer ++ more → AllPass p longer
    → length longer ≤ prefix_len p bytes
longest_run p {bytes} longer more is h = omega (arith, ap (prefix_len p) is, run_over p longer more h)

-- letters are bytes of a name
pub lower_is_word : (byte : ℕ) → is_ascii_lowercase byte ≡ true → is_word byte ≡ true
lower_is_word byte h = grind (arith, nat_tests)

pub upper_is_word : (byte : ℕ) → is_ascii_uppercase byte ≡ true → is_word byte ≡ true
upper_is_word byte h = grind (arith, nat_tests)

-- all bytes of a name pass the test for them
pub name_passes : {is_first : ℕ → Bool} {piece : List ℕ} → ((byte : ℕ) → is_first byte ≡ true → is_word byte ≡ true)
    → IsName is_first piece → AllPass is_word piece
name_passes {is_first} {piece} letters x =
    All-same (λ byte. is_word byte ≡ true) piece (x.first ∷ x.others) x.is
    (All-cons (λ byte. is_word byte ≡ true) x.first x.others (letters x.first x.letter) x.word)

-- the run of such bytes that begins with a letter is a name
pub name_in_front : (is_first : ℕ → Bool) (byte : ℕ) (others : List ℕ) → is_first byte ≡ true → is_word byte ≡ true
    → IsName is_first (take (prefix_len is_word (byte ∷ others)) (byte ∷ others))
name_in_front is_first byte others letter passes =
    let count : prefix_len is_word (byte ∷ others) ≡ suc (prefix_len is_word others) = rw passes (omega arith) in
    subst (λ (n : ℕ). IsName is_first (take n (byte ∷ others))) (sym count)
    (record {
      first = byte;
      others = take (prefix_len is_word others) others;
      is = refl;
      letter = letter;
      word =
          run_passes is_word others;
    })

-- a keyword, a word outside the profile and a lower-case name are always sound
sound_by : (keyword : Option Keyword) (foreign : Bool) (piece : List ℕ) → IsSound (kind_of_word keyword foreign) piece
sound_by (Some keyword) foreign piece = tt
sound_by None true piece = tt
sound_by None false piece = tt

pub word_sound : (piece : List ℕ) → IsSound (word_kind piece) piece
unfolding word_kind
word_sound piece = sound_by (keyword_among keywords piece) (is_foreign piece) piece

-- the token kind of a word is never Number
kind_by : (keyword : Option Keyword) (foreign : Bool) → Number ≡ kind_of_word keyword foreign → ⊥
kind_by (Some keyword) foreign h = cc
kind_by None true h = cc
kind_by None false h = cc

pub word_is_no_number : (piece : List ℕ) → Number ≡ word_kind piece → ⊥
unfolding word_kind
word_is_no_number piece h = kind_by (keyword_among keywords piece) (is_foreign piece) h

-- A run with the form of a token is the longest one, if every form of its class consists of bytes that pass.
pub run_longest : (p : ℕ → Bool) (class : Class) (byte : ℕ) (others : List ℕ) {kind : Lexeme} → class_of byte ≡ class
    → ((other : Lexeme) (longer : List ℕ) → FormOf other longer class → AllPass p longer)
    → IsForm kind (take (prefix_len p (byte ∷ others)) (byte ∷ others))
    → IsLongest kind (take (prefix_len p (byte ∷ others)) (byte ∷ others))
    (drop (prefix_len p (byte ∷ others)) (byte ∷ others))
run_longest p class byte others h passes form =
    let bytes : List ℕ = byte ∷ others in
    let count = prefix_len p bytes in
    let long : length (take count bytes) ≡ count = length-take-le count bytes (prefix_len-le-length p bytes) in
    longest_in (sym (take-append-drop count bytes)) form
    (λ other longer more is x. omega
    (arith, long, longest_run p longer more is (passes other longer (formed_in longer more is h x))))

-- so it is a token, if it is sound and its class is not that of marks
run_token : (p : ℕ → Bool) (class : Class) (byte : ℕ) (others : List ℕ) (kind : Lexeme) → class_of byte ≡ class
    → (class ≡ Mark → ⊥)
    → IsLongest kind (take (prefix_len p (byte ∷ others)) (byte ∷ others))
    (drop (prefix_len p (byte ∷ others)) (byte ∷ others))
    → IsSound kind (take (prefix_len p (byte ∷ others)) (byte ∷ others))
    → Describes (byte ∷ others) (Token kind (prefix_len p (byte ∷ others)))
run_token p class byte others kind h other longest sound =
    let bytes : List ℕ = byte ∷ others in
    let count = prefix_len p bytes in
    token kind (take count bytes) (drop count bytes) count (sym (take-append-drop count bytes))
    (no_comment_opens bytes (λ e. other (sym h ∙ e))) longest sound
    (sym (length-take-le count bytes (prefix_len-le-length p bytes)))

-- the result for bytes that begin with a lower-case letter describes them
pub describe_word : (byte : ℕ) (others : List ℕ) → class_of byte ≡ Lower
    → Describes (byte ∷ others) (word_at (byte ∷ others))
unfolding word_at
describe_word byte others h =
    let piece : List ℕ = take (prefix_len is_word (byte ∷ others)) (byte ∷ others) in
    let letter = test_of_class Lower byte h in
    run_token is_word Lower byte others (word_kind piece) h (λ e. cc)
    (run_longest is_word Lower byte others h passes
    (form_word (name_in_front is_ascii_lowercase byte others letter (lower_is_word byte letter)) refl))
    (word_sound piece)
  where
    passes : (other : Lexeme) (longer : List ℕ) → FormOf other longer Lower → AllPass is_word longer
    passes other longer (word x e) = name_passes lower_is_word x

-- the result for bytes that begin with an upper-case letter describes them
pub describe_upper : (byte : ℕ) (others : List ℕ) → class_of byte ≡ Upper
    → Describes (byte ∷ others) (upper_at (byte ∷ others))
unfolding upper_at
describe_upper byte others h =
    let letter = test_of_class Upper byte h in
    run_token is_word Upper byte others UpperName h (λ e. cc)
    (run_longest is_word Upper byte others h passes
    (form_upper (name_in_front is_ascii_uppercase byte others letter (upper_is_word byte letter)) refl)) tt
  where
    passes : (other : Lexeme) (longer : List ℕ) → FormOf other longer Upper → AllPass is_word longer
    passes other longer (upper x e) = name_passes upper_is_word x

-- the run of digits that begins with a digit is a number
pub number_in_front : (byte : ℕ) (others : List ℕ) → is_ascii_digit byte ≡ true
    → IsNumber (take (prefix_len is_ascii_digit (byte ∷ others)) (byte ∷ others))
number_in_front byte others digit =
    let bytes : List ℕ = byte ∷ others in
    let count : prefix_len is_ascii_digit bytes ≡ suc (prefix_len is_ascii_digit others) = rw digit (omega arith) in
    record {
      some = omega (
        arith,
        length-take-le (prefix_len is_ascii_digit bytes) bytes
            (prefix_len-le-length is_ascii_digit bytes),
        count,
      );
      digits = run_passes is_ascii_digit bytes;
    }

-- and it is the longest token
pub number_longest : (byte : ℕ) (others : List ℕ) → class_of byte ≡ Digit
    → IsLongest Number (take (prefix_len is_ascii_digit (byte ∷ others)) (byte ∷ others))
    (drop (prefix_len is_ascii_digit (byte ∷ others)) (byte ∷ others))
number_longest byte others h = run_longest is_ascii_digit Digit byte others h passes
    (form_number (number_in_front byte others (test_of_class Digit byte h)) refl)
  where
    passes : (other : Lexeme) (longer : List ℕ) → FormOf other longer Digit → AllPass is_ascii_digit longer
    passes other longer (number x e) = x.digits

-- the result for bytes that begin with a digit describes them
pub describe_number : (byte : ℕ) (others : List ℕ) → class_of byte ≡ Digit
    → Describes (byte ∷ others) (number_at (byte ∷ others))
unfolding number_at
describe_number byte others h = by (nat_lt (digits_value 10 (take count bytes)) (2 ^ 127)) refl
  where
    bytes : List ℕ
    bytes = byte ∷ others

    count : ℕ
    count = prefix_len is_ascii_digit bytes

    is : bytes ≡ take count bytes ++ drop count bytes
    is = sym (take-append-drop count bytes)

    by : (small : Bool) → nat_lt (digits_value 10 (take count bytes)) (2 ^ 127) ≡ small
        → Describes bytes (cond small (Token Number count) (Offence L4 0))
    by true e = run_token is_ascii_digit Digit byte others Number h (λ e. cc) (number_longest byte others h)
        (ltb-true (digits_value 10 (take count bytes)) (2 ^ 127) e)
    by false e =
        offence L4 0 (λ place. large_number (take count bytes) (drop count bytes) is (number_longest byte others h)
        (ltb-false (digits_value 10 (take count bytes)) (2 ^ 127) e))
        (omega arith)
