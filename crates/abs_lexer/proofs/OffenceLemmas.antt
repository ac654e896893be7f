-- For each offence of the first piece, the scanner finds one with the same code, and no later.
use Rattle.std.proofs.Common.{◌≡◌, ℕ, ◌^◌, ◌<◌, ◌≤◌, true, false, cond, List, [], ◌∷◌, ◌++◌, length, take, drop, refl, sym, ap, ◌∙◌, arith, append_assoc, length-append}
use Rattle.std.proofs.lemmas.Bool.{false≢true, or_parts}
use Rattle.std.proofs.lemmas.Bool.Decides.{nat_tests, Decides-eqb}
use Rattle.std.proofs.lemmas.List.{take-append-drop}
use Rattle.std.specs.Char.{is_ascii_digit, is_ascii_lowercase, is_ascii_uppercase}
use Rattle.std.specs.List.{prefix_len}
use Rattle.std.specs.Prelude.{Option, Some, None, min, nat_lt, slice_index, codes}
use Rattle.std.specs.Str.Lossy.{utf8_valid_len}
use Rattle.std.specs.Str.Parse.{digits_value}
use Rattle.abs_tree.specs.declared.place.Place.{Place}
use Rattle.abs_tree.specs.declared.refusal.Code.{Code}
use Rattle.abs_tree.specs.declared.refusal.Code.TheVariants.{L1, L2, L3, L4}
use Rattle.abs_tree.specs.declared.refusal.Offence.{Offence}
use Rattle.abs_tree.specs.Places.{place_after}
use Rattle.abs_lexer.specs.declared.lexeme.Lexeme.TheVariants.{UpperName, Number, Text, Punctuator as PunctuatorLexeme}
use Rattle.abs_lexer.specs.declared.piece.Piece.TheVariants.{Blank, Token, Offence as Stop}
use Rattle.abs_lexer.specs.Words.{word_kind, punctuator_bytes}
use Rattle.abs_lexer.specs.Forms.{is_word, is_on_line, IsQuoted, IsComment}
use Rattle.abs_lexer.specs.Forms.IsForm.{word as form_word, upper as form_upper, number as form_number, sign as form_sign}
use Rattle.abs_lexer.specs.Forms.IsComment.{block}
use Rattle.abs_lexer.specs.Tokens.{IsLongest}
use Rattle.abs_lexer.specs.Offences.{IsStray, IsOpenComment, IsOpenString, OffendsAt}
use Rattle.abs_lexer.specs.Offences.OffendsAt.{stray_byte, open_comment, open_string, large_number, bad_escape as offends_bad_escape, broken_string, broken_comment}
use Rattle.abs_lexer.specs.Scans.{closing_quote, bad_escape, block_end, string_checked, comment_checked, string_at, block_at, number_at, opens_line, opens_block, punctuator_at, piece_at}
use Rattle.abs_lexer.proofs.TextLemmas.{closing_reads}
use Rattle.abs_lexer.proofs.EndLemmas.{block_reads}
use Rattle.abs_lexer.proofs.ClassLemmas.{Class, White, Quote, Digit, Lower, Upper, Mark, class_of, piece_of_class, test_of_class, FormOf, formed_in, mark_at}
use Rattle.abs_lexer.proofs.ClassLemmas.FormOf.{word, upper, number, text, sign}
use Rattle.abs_lexer.proofs.QuotedLemmas.{text_found, checked_offence, bad_found, broken_found, front_in_piece}
use Rattle.abs_lexer.proofs.SignLemmas.{no_sign_found}
use Rattle.abs_lexer.proofs.ScanLemmas.{name_in_front, lower_is_word, upper_is_word, number_in_front, word_is_no_number}
use Rattle.abs_lexer.proofs.FoundLemmas.{comment_found, run_takes_piece, digits_found}

-- an offence with the code of this one was found, and this one is no earlier
pub record IsStopped (place : Place) (bytes : List ℕ) (offence : Offence) : Type 0 where
  pub count : ℕ
  pub front : ℕ
  pub found : piece_at bytes ≡ Stop offence.code count
  pub place_is : offence.place ≡ place_after place (take front bytes)
  pub least : count ≤ front
  pub within : front ≤ length bytes

-- an offence at the first byte
stopped_here : (place : Place) (bytes : List ℕ) (code : Code) → piece_at bytes ≡ Stop code 0
    → IsStopped place bytes (record { code = code; place = place })
stopped_here place bytes code found =
    record { count = 0; front = 0; found = found; place_is = refl; least = omega arith; within = omega arith }

-- an offence after a prefix of the first piece
stopped_after : (place : Place) {bytes : List ℕ} (piece after front more : List ℕ) (code : Code) (count : ℕ)
    → bytes ≡ piece ++ after → piece ≡ front ++ more
    → piece_at bytes ≡ Stop code count → count ≤ length front
    → IsStopped place bytes (record { code = code; place = place_after place front })
stopped_after place {bytes} piece after front more code count is e found least = record {
  count = count;
  front = length front;
  found = found;
  place_is = ap (place_after place) (sym (front_in_piece piece after front more is e));
  least = least;
  within = omega (arith, ap length is, ap length e, length-append piece after, length-append front more);
}

-- the scanner finds a byte that begins nothing
stray_found : (bytes : List ℕ) → IsStray bytes → piece_at bytes ≡ Stop L1 0
stray_found bytes x = by (class_of x.byte) refl
  where
    first : (class : Class) → class_of x.byte ≡ class → class_of (slice_index bytes 0) ≡ class
    first class e = ap (λ (bs : List ℕ). class_of (slice_index bs 0)) x.is ∙ e

    in_front : (n : ℕ) → bytes ≡ take n (x.byte ∷ x.others) ++ drop n (x.byte ∷ x.others)
    in_front n = x.is ∙ sym (take-append-drop n (x.byte ∷ x.others))

    words : ℕ
    words = prefix_len is_word (x.byte ∷ x.others)

    digits : ℕ
    digits = prefix_len is_ascii_digit (x.byte ∷ x.others)

    by : (class : Class) → class_of x.byte ≡ class → piece_at bytes ≡ Stop L1 0
    by White e = absurd (false≢true (sym x.no_white ∙ test_of_class White x.byte e))
    by Quote e = absurd (x.no_quote ((Decides-eqb x.byte 34).0 (test_of_class Quote x.byte e)))
    by Digit e =
        let form = form_number (number_in_front x.byte x.others (test_of_class Digit x.byte e)) refl in
        absurd (x.no_token Number (take digits (x.byte ∷ x.others)) (drop digits (x.byte ∷ x.others)) (in_front digits)
        form)
    by Lower e =
        let letter = test_of_class Lower x.byte e in
        absurd (x.no_token (word_kind (take words (x.byte ∷ x.others))) (take words (x.byte ∷ x.others))
        (drop words (x.byte ∷ x.others)) (in_front words)
        (form_word (name_in_front is_ascii_lowercase x.byte x.others letter (lower_is_word x.byte letter)) refl))
    by Upper e =
        let letter = test_of_class Upper x.byte e in
        absurd (x.no_token UpperName (take words (x.byte ∷ x.others)) (drop words (x.byte ∷ x.others)) (in_front words)
        (form_upper (name_in_front is_ascii_uppercase x.byte x.others letter (upper_is_word x.byte letter)) refl))
    by Mark e =
        let opens = or_parts (opens_line bytes) (opens_block bytes) x.no_comment in
        let marks : mark_at bytes ≡ punctuator_at bytes = rw (opens.0, opens.1) refl in
        piece_of_class Mark bytes (first Mark e)
        ∙ (marks ∙ no_sign_found bytes (λ p after is.
        x.no_token (PunctuatorLexeme p) (punctuator_bytes p) after is (form_sign p refl refl)))

-- the scanner finds a comment that does not end
open_comment_found : (bytes : List ℕ) → IsOpenComment bytes → piece_at bytes ≡ Stop L2 0
unfolding block_at
open_comment_found bytes x = piece_of_class Mark bytes class ∙ (marks ∙ by (block_end (drop 2 bytes)) refl)
  where
    class : class_of (slice_index bytes 0) ≡ Mark
    class = ap (λ (bs : List ℕ). class_of (slice_index bs 0)) x.is

    no_line : opens_line bytes ≡ false
    no_line = ap opens_line x.is

    opens : opens_block bytes ≡ true
    opens = ap opens_block x.is

    marks : mark_at bytes ≡ block_at bytes
    marks = rw (no_line, opens) refl

    by : (ended : Option ℕ) → block_end (drop 2 bytes) ≡ ended → block_at bytes ≡ Stop L2 0
    by None e = rw e refl
    by (Some n) e =
        let y = block_reads (drop 2 bytes) n e in
        let rest : x.inside ≡ y.inside ++ (codes "*/" ++ y.after) = ap (λ (bs : List ℕ). drop 2 bs) (sym x.is) ∙ y.is in
        absurd (x.endless (codes "/*" ++ (y.inside ++ codes "*/")) y.after
        (x.is ∙ ap (λ (bs : List ℕ). 47 ∷ 42 ∷ bs) (rest ∙ sym (append_assoc y.inside (codes "*/") y.after)))
        (block y.inside refl y.nowhere))

-- the scanner finds a string that does not end on its line
open_text_found : (bytes : List ℕ) → IsOpenString bytes → piece_at bytes ≡ Stop L3 0
unfolding string_at
open_text_found bytes x = piece_of_class Quote bytes (ap (λ (bs : List ℕ). class_of (slice_index bs 0)) x.is)
    ∙ by (closing_quote (drop 1 bytes)) refl
  where
    by : (closed : Option ℕ) → closing_quote (drop 1 bytes) ≡ closed → string_at bytes ≡ Stop L3 0
    by None e = rw e refl
    by (Some n) e =
        let y = closing_reads (drop 1 bytes) n e in
        let rest : x.inside ≡ y.inside ++ 34 ∷ y.after = ap (λ (bs : List ℕ). drop 1 bs) (sym x.is) ∙ y.is in
        absurd (x.endless (34 ∷ (y.inside ++ 34 ∷ [])) y.after
        (x.is ∙ ap (λ (bs : List ℕ). 34 ∷ bs) (rest ∙ sym (append_assoc y.inside (34 ∷ []) y.after)))
        (record { inside = y.inside; is = refl; reads = y.reads }))

-- the scanner finds a number above 127 bits
large_found : {bytes : List ℕ} (piece after : List ℕ) → bytes ≡ piece ++ after → IsLongest Number piece after
    → 2 ^ 127 ≤ digits_value 10 piece → piece_at bytes ≡ Stop L4 0
unfolding number_at
large_found {bytes} piece after is x large =
    by (class_of (slice_index bytes 0)) refl (formed_in piece after is refl x.form)
  where
    by : (class : Class) → class_of (slice_index bytes 0) ≡ class → FormOf Number piece class
        → piece_at bytes ≡ Stop L4 0
    by White e y = elim y [ ]
    by Quote e (text y k) = cc
    by Lower e (word y k) = absurd (word_is_no_number piece k)
    by Upper e (upper y k) = cc
    by Mark e (sign p y k) = cc
    by Digit e (number y k) =
        let count = digits_found piece after is y x in
        let test : nat_lt (digits_value 10 piece) (2 ^ 127) ≡ false = grind (arith, nat_tests) in
        piece_of_class Digit bytes e
        ∙ (ap (λ (p : List ℕ). cond (nat_lt (digits_value 10 p) (2 ^ 127))
        (Token Number (prefix_len is_ascii_digit bytes)) (Stop L4 0))
        (run_takes_piece is_ascii_digit piece after is count)
        ∙ rw test refl)

-- the scanner stops in a string with an offence
text_stops : {bytes : List ℕ} (piece after : List ℕ) → bytes ≡ piece ++ after → IsQuoted is_on_line piece
    → min (bad_escape piece) (utf8_valid_len piece) < length piece
    → piece_at bytes ≡ Stop L1 (min (bad_escape piece) (utf8_valid_len piece))
unfolding string_checked
text_stops {bytes} piece after is x short =
    let class : class_of (slice_index bytes 0) ≡ Quote =
    ap (λ (bs : List ℕ). class_of (slice_index bs 0)) (is ∙ ap (λ (p : List ℕ). p ++ after) x.is) in
    piece_of_class Quote bytes class
    ∙ (text_found after is x ∙ checked_offence (Token Text (length piece))
    (min (bad_escape piece) (utf8_valid_len piece)) piece short)

-- the scanner stops in a comment with an offence
comment_stops : {bytes : List ℕ} (piece after : List ℕ) → bytes ≡ piece ++ after → IsComment piece after
    → utf8_valid_len piece < length piece
    → piece_at bytes ≡ Stop L1 (utf8_valid_len piece)
unfolding comment_checked
comment_stops piece after is x short =
    comment_found piece after is x ∙ checked_offence (Blank (length piece)) (utf8_valid_len piece) piece short

-- for each offence of the first piece, the scanner finds it or one before it
pub offends_found : {place : Place} {bytes : List ℕ} {offence : Offence} → OffendsAt place bytes offence
    → IsStopped place bytes offence
offends_found {place} {bytes} (stray_byte x) = stopped_here place bytes L1 (stray_found bytes x)
offends_found {place} {bytes} (open_comment x) = stopped_here place bytes L2 (open_comment_found bytes x)
offends_found {place} {bytes} (open_string x) = stopped_here place bytes L3 (open_text_found bytes x)
offends_found {place} {bytes} (large_number piece after is x large) =
    stopped_here place bytes L4 (large_found piece after is x large)
offends_found {place} {bytes} (offends_bad_escape piece after front is x y) =
    let least = bad_found y in
    stopped_after place piece after front (92 ∷ y.byte ∷ y.others) L1 (min (bad_escape piece) (utf8_valid_len piece)) is
    y.is
    (text_stops piece after is x (omega (arith, least.0, least.1))) (omega (arith, least.0))
offends_found {place} {bytes} (broken_string piece after front is x y) =
    let least = broken_found y in
    stopped_after place piece after front y.after L1 (min (bad_escape piece) (utf8_valid_len piece)) is y.is
    (text_stops piece after is x (omega (arith, least.0, least.1))) (omega (arith, least.0))
offends_found {place} {bytes} (broken_comment piece after front is x y) =
    let least = broken_found y in
    stopped_after place piece after front y.after L1 (utf8_valid_len piece) is y.is
    (comment_stops piece after is x (omega (arith, least.0, least.1))) (omega (arith, least.0))
