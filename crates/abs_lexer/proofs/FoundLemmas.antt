-- The result of the scanner describes the bytes. Where they begin with white space, a comment or a token, the scanner
-- finds just that.
use Rattle.std.proofs.Common.{◌≡◌, ℕ, ◌^◌, ◌<◌, ◌≤◌, Bool, true, false, cond, List, [], ◌∷◌, ◌++◌, length, take, drop, refl, sym, ap, subst, ◌∙◌, arith, length-take-le}
use Rattle.std.proofs.Math.Seq.{take-append_seam}
use Rattle.std.proofs.lemmas.List.{take-append-drop}
use Rattle.std.proofs.lemmas.Bool.Decides.{nat_tests, Decides-eqb}
use Rattle.std.specs.Char.{is_ascii_digit, is_ascii_lowercase, is_ascii_uppercase}
use Rattle.std.specs.List.{AllPass, prefix_len}
use Rattle.std.specs.Prelude.{nat_lt, slice_index, codes}
use Rattle.std.specs.Str.Parse.{digits_value}
use Rattle.abs_tree.specs.declared.place.Place.{Place}
use Rattle.abs_tree.specs.declared.refusal.Code.TheVariants.{L4}
use Rattle.abs_lexer.specs.declared.lexeme.Lexeme.{Lexeme}
use Rattle.abs_lexer.specs.declared.lexeme.Lexeme.TheVariants.{UpperName, Number, Text, Punctuator as PunctuatorLexeme}
use Rattle.abs_lexer.specs.declared.piece.Piece.{Piece}
use Rattle.abs_lexer.specs.declared.piece.Piece.TheVariants.{Blank, Token, Offence}
use Rattle.abs_lexer.specs.Words.{word_kind, punctuator_bytes}
use Rattle.abs_lexer.specs.Forms.{is_word, IsName, IsNumber, IsForm, opens_comment, IsComment}
use Rattle.abs_lexer.specs.Forms.IsForm.{word as form_word, upper as form_upper, number as form_number, sign as form_sign}
use Rattle.abs_lexer.specs.Forms.IsComment.{line, block}
use Rattle.abs_lexer.specs.Tokens.{Lexed, IsLongest, IsSound, Begins}
use Rattle.abs_lexer.specs.Tokens.Begins.{white, comment, lexeme}
use Rattle.abs_lexer.specs.Scans.{comment_checked, string_at, line_at, block_at, number_at, word_at, upper_at, opens_line, opens_block, punctuator_at, piece_at}
use Rattle.abs_lexer.proofs.ClassLemmas.{Class, White, Quote, Digit, Lower, Upper, Mark, class_of, piece_by, piece_of_class, test_of_class, FormOf, formed_in, class_white, mark_at}
use Rattle.abs_lexer.proofs.ClassLemmas.FormOf.{word, upper, number, text, sign}
use Rattle.abs_lexer.proofs.QuotedLemmas.{text_found, text_is_token, describe_text}
use Rattle.abs_lexer.proofs.CommentLemmas.{line_found, block_found, comment_sound, describe_line, describe_block}
use Rattle.abs_lexer.proofs.SignLemmas.{sign_is_found, describe_sign}
use Rattle.abs_lexer.proofs.ScanLemmas.{Describes, name_in_front, name_passes, lower_is_word, upper_is_word, number_in_front, describe_word, describe_upper, describe_number}
use Rattle.abs_lexer.proofs.ScanLemmas.Describes.{white as describes_white}
use Rattle.std.proofs.lemmas.List.Sums.{prefix_len-le-length}
use Rattle.list_facts.proofs.PrefixLemmas.{run_over}
use Rattle.std.proofs.lemmas.Bool.{or_parts}

-- the result of the scanner describes the bytes
pub describe : (bytes : List ℕ) → 0 < length bytes → Describes bytes (piece_at bytes)
describe [] some = absurd (omega arith)
describe (byte ∷ others) some = by (class_of byte) refl
  where
    bytes : List ℕ
    bytes = byte ∷ others

    found : (class : Class) → class_of byte ≡ class → (p : Piece) → piece_by class bytes ≡ p → Describes bytes p
        → Describes bytes (piece_at bytes)
    found class e p is x = subst (λ (q : Piece). Describes bytes q) (sym (piece_of_class class bytes e ∙ is)) x

    marked : (line_opens block_opens : Bool) → opens_line bytes ≡ line_opens → opens_block bytes ≡ block_opens
        → class_of byte ≡ Mark
        → Describes bytes (cond line_opens (line_at bytes) (cond block_opens (block_at bytes) (punctuator_at bytes)))
    marked true block_opens l b e = describe_line bytes l
    marked false true l b e = describe_block bytes b
    marked false false l b e = describe_sign byte others e (rw (l, b) refl)

    by : (class : Class) → class_of byte ≡ class → Describes bytes (piece_at bytes)
    by White e = found White e (Blank 1) refl (describes_white byte others refl (test_of_class White byte e))
    by Quote e =
        found Quote e (string_at bytes) refl
        (subst (λ (b : ℕ). Describes (b ∷ others) (string_at (b ∷ others)))
        (sym ((Decides-eqb byte 34).0 (test_of_class Quote byte e))) (describe_text others))
    by Digit e = found Digit e (number_at bytes) refl (describe_number byte others e)
    by Lower e = found Lower e (word_at bytes) refl (describe_word byte others e)
    by Upper e = found Upper e (upper_at bytes) refl (describe_upper byte others e)
    by Mark e = found Mark e (mark_at bytes) refl (marked (opens_line bytes) (opens_block bytes) refl refl e)

-- what was found of the first piece: white space or a comment, or a token
pub data IsFoundAs (place : Place) (piece : List ℕ) (tokens : List Lexed) (found : Piece) : Type 0 where
  blank : found ≡ Blank (length piece) → tokens ≡ [] → IsFoundAs place piece tokens found
  token : (kind : Lexeme) → found ≡ Token kind (length piece)
      → tokens ≡ record { kind = kind; place = place; bytes = piece } ∷ [] → IsFoundAs place piece tokens found

-- the scanner finds a comment, and checks whether it is sound
pub comment_found : {bytes : List ℕ} (piece after : List ℕ) → bytes ≡ piece ++ after → IsComment piece after
    → piece_at bytes ≡ comment_checked piece
comment_found {bytes} piece after is (line inside e h ends) =
    let whole : bytes ≡ 47 ∷ 47 ∷ (inside ++ after) = is ∙ ap (λ (p : List ℕ). p ++ after) e in
    let class : class_of (slice_index bytes 0) ≡ Mark = ap (λ (bs : List ℕ). class_of (slice_index bs 0)) whole in
    let opens : opens_line bytes ≡ true = ap opens_line whole in
    let marks : mark_at bytes ≡ line_at bytes = rw opens refl in
    piece_of_class Mark bytes class ∙ (marks ∙ line_found after inside is e h ends)
comment_found {bytes} piece after is (block inside e none) =
    let whole : bytes ≡ 47 ∷ 42 ∷ ((inside ++ codes "*/") ++ after) = is ∙ ap (λ (p : List ℕ). p ++ after) e in
    let class : class_of (slice_index bytes 0) ≡ Mark = ap (λ (bs : List ℕ). class_of (slice_index bs 0)) whole in
    let no_line : opens_line bytes ≡ false = ap opens_line whole in
    let opens : opens_block bytes ≡ true = ap opens_block whole in
    let marks : mark_at bytes ≡ block_at bytes = rw (no_line, opens) refl in
    piece_of_class Mark bytes class ∙ (marks ∙ block_found after inside is e none)

-- if all of the first piece passes and the run is no longer, the run is as long as the piece
run_is_piece : (p : ℕ → Bool) {bytes : List ℕ} (piece after : List ℕ) → bytes ≡ piece ++ after → AllPass p piece
    → length (take (prefix_len p bytes) bytes) ≤ length piece
    → prefix_len p bytes ≡ length piece
run_is_piece p {bytes} piece after is h few =
    omega (
      arith,
      few,
      ap (prefix_len p) is,
      run_over p piece after h,
      length-take-le (prefix_len p bytes) bytes
          (prefix_len-le-length p bytes),
    )

-- and then it is the piece
pub run_takes_piece : (p : ℕ → Bool) {bytes : List ℕ} (piece after : List ℕ) → bytes ≡ piece ++ after
    → prefix_len p bytes ≡ length piece → take (prefix_len p bytes) bytes ≡ piece
run_takes_piece p {bytes} piece after is count =
    ap (λ (n : ℕ). take n bytes) count
    ∙ (ap (λ (bs : List ℕ). take (length piece) bs) is ∙ take-append_seam piece after)

-- no prefix with the form of a token is longer than the longest one
no_longer : {kind : Lexeme} {bytes piece after : List ℕ} → bytes ≡ piece ++ after → IsLongest kind piece after
    → (other : Lexeme) (n : ℕ) → IsForm other (take n bytes)
    → length (take n bytes) ≤ length piece
no_longer {bytes = bytes} is x other n y =
    x.longest other (take n bytes) (drop n bytes) (sym is ∙ sym (take-append-drop n bytes)) y

-- if bytes begin with a name, the run is a name; the same holds for a number
name_of : (is_first : ℕ → Bool) {bytes piece : List ℕ} (after : List ℕ) → bytes ≡ piece ++ after
    → (x : IsName is_first piece) → is_word x.first ≡ true
    → IsName is_first (take (prefix_len is_word bytes) bytes)
name_of is_first after is x passes =
    subst (λ (bs : List ℕ). IsName is_first (take (prefix_len is_word bs) bs))
    (sym (is ∙ ap (λ (p : List ℕ). p ++ after) x.is))
    (name_in_front is_first x.first (x.others ++ after) x.letter passes)

number_of : {bytes : List ℕ} (piece after : List ℕ) → bytes ≡ piece ++ after → IsNumber piece
    → IsNumber (take (prefix_len is_ascii_digit bytes) bytes)
number_of [] after is x = absurd (omega (arith, x.some))
number_of (byte ∷ others) after is x =
    subst (λ (bs : List ℕ). IsNumber (take (prefix_len is_ascii_digit bs) bs)) (sym is)
    (number_in_front byte (others ++ after) (x.digits 0 0 (omega arith)))

-- the run of digits is as long as the number
pub digits_found : {bytes : List ℕ} (piece after : List ℕ) → bytes ≡ piece ++ after → IsNumber piece
    → IsLongest Number piece after → prefix_len is_ascii_digit bytes ≡ length piece
digits_found {bytes} piece after is y x =
    run_is_piece is_ascii_digit piece after is y.digits
    (no_longer is x Number (prefix_len is_ascii_digit bytes) (form_number (number_of piece after is y) refl))

-- the scanner finds a token, by cases of its form
token_found : {kind : Lexeme} {bytes : List ℕ} (piece after : List ℕ) → bytes ≡ piece ++ after
    → opens_comment bytes ≡ false → IsLongest kind piece after → IsSound kind piece
    → (class : Class) → class_of (slice_index bytes 0) ≡ class → FormOf kind piece class
    → piece_at bytes ≡ Token kind (length piece)
unfolding word_at upper_at number_at
token_found {kind} {bytes} piece after is unopened x sound White class y = elim y [ ]
token_found {kind} {bytes} piece after is unopened x sound Lower class (word y e) =
    let count = run_is_piece is_word piece after is (name_passes lower_is_word y)
    (no_longer is x (word_kind (take (prefix_len is_word bytes) bytes)) (prefix_len is_word bytes)
    (form_word (name_of is_ascii_lowercase after is y (lower_is_word y.first y.letter)) refl)) in
    piece_of_class Lower bytes class
    ∙ (ap (λ (p : List ℕ). Token (word_kind p) (prefix_len is_word bytes))
    (run_takes_piece is_word piece after is count) ∙ rw (count, e) refl)
token_found {kind} {bytes} piece after is unopened x sound Upper class (upper y e) =
    let count = run_is_piece is_word piece after is (name_passes upper_is_word y)
    (no_longer is x UpperName (prefix_len is_word bytes)
    (form_upper (name_of is_ascii_uppercase after is y (upper_is_word y.first y.letter)) refl)) in
    piece_of_class Upper bytes class ∙ rw (count, e) refl
token_found {kind} {bytes} piece after is unopened x sound Digit class (number y e) =
    let count = digits_found piece after is y (subst (λ (k : Lexeme). IsLongest k piece after) e x) in
    let small : digits_value 10 piece < 2 ^ 127 = subst (λ (k : Lexeme). IsSound k piece) e sound in
    let test : nat_lt (digits_value 10 piece) (2 ^ 127) ≡ true = grind (arith, nat_tests) in
    piece_of_class Digit bytes class
    ∙ (ap (λ (p : List ℕ). cond (nat_lt (digits_value 10 p) (2 ^ 127)) (Token Number (prefix_len is_ascii_digit bytes))
    (Offence L4 0)) (run_takes_piece is_ascii_digit piece after is count)
    ∙ rw (test, count, e) refl)
token_found {kind} {bytes} piece after is unopened x sound Quote class (text y e) =
    let parts : IsSound Text piece = subst (λ (k : Lexeme). IsSound k piece) e sound in
    piece_of_class Quote bytes class
    ∙ (text_found after is y ∙ (text_is_token parts.0 parts.1 ∙ ap (λ (k : Lexeme). Token k (length piece)) (sym e)))
token_found {kind} {bytes} piece after is unopened x sound Mark class (sign p spelled e) =
    let opens = or_parts (opens_line bytes) (opens_block bytes) unopened in
    let marks : mark_at bytes ≡ punctuator_at bytes = rw (opens.0, opens.1) refl in
    piece_of_class Mark bytes class
    ∙ (marks
    ∙ (sign_is_found p piece after is spelled
    (λ q more is_q. x.longest (PunctuatorLexeme q) (punctuator_bytes q) more (sym is ∙ is_q) (form_sign q refl refl))
    ∙ ap (λ (k : Lexeme). Token k (length piece)) (sym e)))

-- the scanner finds every first piece without offence
pub begins_found : {place : Place} {bytes : List ℕ} (piece after : List ℕ) {tokens : List Lexed}
    → bytes ≡ piece ++ after → Begins place piece after tokens
    → IsFoundAs place piece tokens (piece_at bytes)
begins_found {place} {bytes} piece after is (white byte e w) =
    let whole : bytes ≡ byte ∷ after = is ∙ ap (λ (p : List ℕ). p ++ after) e in
    let class : class_of (slice_index bytes 0) ≡ White =
    ap (λ (bs : List ℕ). class_of (slice_index bs 0)) whole ∙ class_white byte w in
    blank (piece_of_class White bytes class ∙ ap (λ (n : ℕ). Blank n) (sym (ap length e))) refl
begins_found {place} {bytes} piece after is (comment x valid) =
    blank (comment_found piece after is x ∙ comment_sound valid) refl
begins_found {place} {bytes} piece after is (lexeme kind unopened x sound) =
    token kind
    (token_found piece after is (ap opens_comment is ∙ unopened) x sound (class_of (slice_index bytes 0)) refl
    (formed_in piece after is refl x.form)) refl
