-- Bytes that begin with a quote: a string that does not end on its line, one with an offence in it, or a token.
use Rattle.std.proofs.Common.{◌≡◌, ℕ, ◌+◌, ◌<◌, ◌≤◌, Bool, true, false, List, [], ◌∷◌, ◌++◌, length, take, drop, refl, sym, ap, subst, ◌∙◌, arith, append_assoc, length-append, ◌⊎◌, inl, inr, length-take-le}
use Rattle.std.proofs.Math.Seq.{take-append_seam}
use Rattle.std.proofs.lemmas.Bool.{cases_lt}
use Rattle.std.proofs.lemmas.Bool.Decides.{nat_tests}
use Rattle.std.proofs.lemmas.List.{take-append-drop, take-append-le}
use Rattle.std.proofs.lemmas.Str.{utf8_valid_len-IsUtf8, utf8_valid_len-IsValidUpTo}
use Rattle.std.specs.Prelude.{Option, Some, None, IsUtf8, min, nat_lt, slice_index}
use Rattle.std.specs.Str.{IsValidUpTo}
use Rattle.std.specs.Str.Lossy.{utf8_valid_len}
use Rattle.abs_tree.specs.declared.place.Place.{Place}
use Rattle.abs_tree.specs.declared.refusal.Code.TheVariants.{L1, L3}
use Rattle.abs_tree.specs.Places.{place_after}
use Rattle.abs_lexer.specs.declared.lexeme.Lexeme.{Lexeme}
use Rattle.abs_lexer.specs.declared.lexeme.Lexeme.TheVariants.{Text}
use Rattle.abs_lexer.specs.declared.piece.Piece.{Piece}
use Rattle.abs_lexer.specs.declared.piece.Piece.TheVariants.{Token, Offence}
use Rattle.abs_lexer.specs.Forms.{is_escape, is_on_line, IsQuoted}
use Rattle.abs_lexer.specs.Forms.IsForm.{text as form_text}
use Rattle.abs_lexer.specs.Offences.{IsBadEscape, IsBroken, OffendsAt}
use Rattle.abs_lexer.specs.Offences.OffendsAt.{open_string, bad_escape as offends_bad_escape, broken_string}
use Rattle.abs_lexer.specs.Scans.{closing_quote, bad_escape, checked_piece, string_checked, string_at}
use Rattle.abs_lexer.proofs.TextLemmas.{closing_inside, closing_reads, Judged, judged, bad_step, bad_least, bad_nowhere}
use Rattle.abs_lexer.proofs.TextLemmas.Judged.{good, bad}
use Rattle.abs_lexer.proofs.ClassLemmas.{Quote, Mark, class_of, FormOf, formed_in, no_comment_opens}
use Rattle.abs_lexer.proofs.ClassLemmas.FormOf.{text}
use Rattle.abs_lexer.proofs.ScanLemmas.{Describes, longest_in}
use Rattle.abs_lexer.proofs.ScanLemmas.Describes.{token, offence}
use Rattle.list_facts.proofs.Utf8Lemmas.{broken, unbroken}
use Rattle.std.proofs.lemmas.Option.{same_Some}

-- a string is two bytes longer than the bytes between its quotes
length_quoted : {passes : ℕ → Bool} {piece : List ℕ} (x : IsQuoted passes piece) → length piece ≡ length x.inside + 2
length_quoted x = omega (arith, ap length x.is, length-append x.inside (34 ∷ []))

-- after the quote that opens a string, the scan finds the one that closes it
pub quoted_closes : {bytes piece : List ℕ} (after : List ℕ) → bytes ≡ piece ++ after → (x : IsQuoted is_on_line piece)
    → closing_quote (drop 1 bytes) ≡ Some (length x.inside)
quoted_closes {bytes} {piece} after is x =
    ap (λ (bs : List ℕ). closing_quote (drop 1 bs)) is
    ∙ (ap (λ (p : List ℕ). closing_quote (drop 1 (p ++ after))) x.is
    ∙ (ap closing_quote (append_assoc x.inside (34 ∷ []) after) ∙ closing_inside after x.reads))

-- so the scanner finds the string
pub text_found : {bytes piece : List ℕ} (after : List ℕ) → bytes ≡ piece ++ after → IsQuoted is_on_line piece
    → string_at bytes ≡ string_checked piece
unfolding string_at
text_found {bytes} {piece} after is x =
    let front : take (length x.inside + 2) bytes ≡ piece =
    ap (λ (n : ℕ). take n bytes) (sym (length_quoted x))
    ∙ (ap (λ (bs : List ℕ). take (length piece) bs) is ∙ take-append_seam piece after) in
    rw (quoted_closes after is x) (ap string_checked front)

-- two strings that the same bytes begin with have the same length
pub quoted_once : {bytes piece other : List ℕ} (after more : List ℕ) → bytes ≡ piece ++ after → bytes ≡ other ++ more
    → IsQuoted is_on_line piece → IsQuoted is_on_line other
    → length piece ≡ length other
quoted_once after more is e x y =
    let same = same_Some (length x.inside) (length y.inside) (sym (quoted_closes after is x) ∙ quoted_closes more e y)
    in
    omega (arith, same, length_quoted x, length_quoted y)

-- an offence before the end of a piece is found, and otherwise the piece is sound
pub checked_offence : (sound : Piece) (at : ℕ) (piece : List ℕ) → at < length piece
    → checked_piece sound at piece ≡ Offence L1 at
checked_offence sound at piece h = let test : nat_lt at (length piece) ≡ true = grind (arith, nat_tests) in rw test refl

pub checked_sound : (sound : Piece) (at : ℕ) (piece : List ℕ) → length piece ≤ at → checked_piece sound at piece ≡ sound
checked_sound sound at piece h = let test : nat_lt at (length piece) ≡ false = grind (arith, nat_tests) in rw test refl

-- the scan for escapes passes the quote that opens a string
bad_after : {piece : List ℕ} (others : List ℕ) → piece ≡ 34 ∷ others → bad_escape piece ≡ 1 + bad_escape others
bad_after others is = ap bad_escape is ∙ bad_step 34 others refl

-- where a `\` begins no escape, the scan stops there or before
pub bad_found : {piece front : List ℕ} → IsBadEscape piece front
    → (bad_escape piece ≤ length front) × (length front < length piece)
bad_found {piece} {front} x =
    let step = bad_after (x.inside ++ 92 ∷ x.byte ∷ x.others)
    (x.is ∙ ap (λ (f : List ℕ). f ++ 92 ∷ x.byte ∷ x.others) x.front_is) in
    let least = bad_least x.byte x.others x.bad x.reads in
    let long = ap length x.front_is in
    (omega (arith, step, least, long), omega (arith, ap length x.is, length-append front (92 ∷ x.byte ∷ x.others)))

-- where each `\` begins an escape, the scan reaches the end
pub bad_not_found : {piece : List ℕ} → IsQuoted is_escape piece → bad_escape piece ≡ length piece
bad_not_found x = omega (arith, bad_after (x.inside ++ 34 ∷ []) x.is, bad_nowhere x.reads, length_quoted x)

-- a string that is sound is a token
pub text_is_token : {piece : List ℕ} → IsQuoted is_escape piece → IsUtf8 piece
    → string_checked piece ≡ Token Text (length piece)
unfolding string_checked
text_is_token {piece} x valid =
    checked_sound (Token Text (length piece)) (min (bad_escape piece) (utf8_valid_len piece)) piece
    (omega (arith, bad_not_found x, utf8_valid_len-IsUtf8 piece valid))

-- a prefix of bytes within their first piece is a prefix of that piece
pub front_of_piece : {bytes : List ℕ} (piece after : List ℕ) (n : ℕ) → bytes ≡ piece ++ after → n ≤ length piece
    → take n bytes ≡ take n piece
front_of_piece piece after n is few = ap (λ (bs : List ℕ). take n bs) is ∙ take-append-le n piece after few

-- a prefix of the first piece is a prefix of the bytes
pub front_in_piece : {bytes : List ℕ} (piece after front more : List ℕ) → bytes ≡ piece ++ after → piece ≡ front ++ more
    → take (length front) bytes ≡ front
front_in_piece piece after front more is e =
    front_of_piece piece after (length front) is (omega (arith, ap length e, length-append front more))
    ∙ (ap (λ (bs : List ℕ). take (length front) bs) e ∙ take-append_seam front more)

-- a piece stops being UTF-8 after its longest prefix that is
pub broken_at : (piece : List ℕ) → utf8_valid_len piece < length piece
    → IsBroken piece (take (utf8_valid_len piece) piece)
broken_at piece h =
    let long : length (take (utf8_valid_len piece) piece) ≡ utf8_valid_len piece =
    length-take-le (utf8_valid_len piece) piece (omega arith) in
    record {
      after = drop (utf8_valid_len piece) piece;
      is =
          sym (take-append-drop (utf8_valid_len piece) piece);
      longest =
          subst (λ (n : ℕ). IsValidUpTo piece n) (sym long) (broken piece h);
    }

pub broken_found : {piece front : List ℕ} → IsBroken piece front
    → (utf8_valid_len piece ≡ length front) × (length front < length piece)
broken_found {piece} {front} x = (utf8_valid_len-IsValidUpTo piece (length front) x.longest, x.longest.short)

-- the offence of a string with a `\` that begins no escape
escape_offends : {bytes piece : List ℕ} (after : List ℕ) → bytes ≡ piece ++ after → (x : IsQuoted is_on_line piece)
    → bad_escape piece < length piece → (place : Place)
    → OffendsAt place bytes (record { code = L1; place = place_after place (take (bad_escape piece) bytes) })
escape_offends {bytes} {piece} after is x short place = by (judged x.reads)
  where
    by : Judged x.inside → OffendsAt place bytes
        (record { code = L1; place = place_after place (take (bad_escape piece) bytes) })
    by (good y) = absurd (omega (arith, short, bad_not_found (record { inside = x.inside; is = x.is; reads = y })))
    by (bad front byte others e reads wrong at) =
        let front_is : piece ≡ (34 ∷ front) ++ 92 ∷ byte ∷ (others ++ 34 ∷ []) =
        x.is ∙ (ap (λ (i : List ℕ). 34 ∷ (i ++ 34 ∷ [])) e
        ∙ ap (λ (i : List ℕ). 34 ∷ i) (append_assoc front (92 ∷ byte ∷ others) (34 ∷ []))) in
        let count : length (34 ∷ front) ≡ bad_escape piece = omega (arith, bad_after (x.inside ++ 34 ∷ []) x.is, at) in
        let taken : take (bad_escape piece) bytes ≡ 34 ∷ front =
        ap (λ (n : ℕ). take n bytes) (sym count)
        ∙ front_in_piece piece after (34 ∷ front) (92 ∷ byte ∷ (others ++ 34 ∷ [])) is front_is in
        subst (λ (f : List ℕ). OffendsAt place bytes (record { code = L1; place = place_after place f })) (sym taken)
        (offends_bad_escape piece after (34 ∷ front) is x
        (record {
          inside = front;
          byte = byte;
          others = others ++ 34 ∷ [];
          front_is = refl;
          reads = reads;
          is =
              front_is;
          bad = wrong;
        }))

-- the offence of a string that is not UTF-8
text_offends : {bytes piece : List ℕ} (after : List ℕ) → bytes ≡ piece ++ after → IsQuoted is_on_line piece
    → utf8_valid_len piece < length piece → (place : Place)
    → OffendsAt place bytes (record { code = L1; place = place_after place (take (utf8_valid_len piece) bytes) })
text_offends {bytes} {piece} after is x short place =
    subst (λ (f : List ℕ). OffendsAt place bytes (record { code = L1; place = place_after place f }))
    (sym (front_of_piece piece after (utf8_valid_len piece) is (omega arith)))
    (broken_string piece after (take (utf8_valid_len piece) piece) is x (broken_at piece short))

-- the result for a string that closes describes the bytes
describe_closed : {bytes piece : List ℕ} (after : List ℕ) → bytes ≡ piece ++ after
    → class_of (slice_index bytes 0) ≡ Quote → IsQuoted is_on_line piece
    → Describes bytes (string_checked piece)
unfolding string_checked
describe_closed {bytes} {piece} after is class x =
    by (cases_lt (min (bad_escape piece) (utf8_valid_len piece)) (length piece))
    (cases_lt (utf8_valid_len piece) (bad_escape piece))
  where
    at : ℕ
    at = min (bad_escape piece) (utf8_valid_len piece)

    within : length piece ≤ length bytes
    within = omega (arith, ap length is, length-append piece after)

    here : at < length piece → (n : ℕ) → at ≡ n
        → ((place : Place) → OffendsAt place bytes (record { code = L1; place = place_after place (take n bytes) }))
        → Describes bytes (Offence L1 at)
    here short n same offends =
        offence L1 at (λ place. subst (λ (m : ℕ).
        OffendsAt place bytes (record { code = L1; place = place_after place (take m bytes) })) (sym same)
        (offends place))
        (omega (arith, short, within))

    by : (at < length piece) ⊎ (length piece ≤ at)
        → (utf8_valid_len piece < bad_escape piece) ⊎ (bad_escape piece ≤ utf8_valid_len piece)
        → Describes bytes (checked_piece (Token Text (length piece)) at piece)
    by (inl short) (inl valid) =
        subst (λ (p : Piece). Describes bytes p) (sym (checked_offence (Token Text (length piece)) at piece short))
        (here short (utf8_valid_len piece) (omega arith) (λ place. text_offends after is x (omega arith) place))
    by (inl short) (inr escape) =
        subst (λ (p : Piece). Describes bytes p) (sym (checked_offence (Token Text (length piece)) at piece short))
        (here short (bad_escape piece) (omega arith) (λ place. escape_offends after is x (omega arith) place))
    by (inr all) side =
        subst (λ (p : Piece). Describes bytes p) (sym (checked_sound (Token Text (length piece)) at piece all))
        (token Text piece after (length piece) is
        (no_comment_opens bytes (λ e. let clash : Quote ≡ Mark = sym class ∙ e in cc))
        (longest_in is (form_text x refl)
        (λ other longer more e y. within_text (formed_in longer more e class y) more e))
        (escapes (judged x.reads), unbroken piece (omega arith)) refl)
      where
        within_text : {other : Lexeme} {longer : List ℕ} → FormOf other longer Quote → (more : List ℕ)
            → bytes ≡ longer ++ more → length longer ≤ length piece
        within_text (text y e) more e' = omega (arith, quoted_once after more is e' x y)

        escapes : Judged x.inside → IsQuoted is_escape piece
        escapes (good y) = record { inside = x.inside; is = x.is; reads = y }
        escapes (bad front byte others e reads wrong stop) =
            absurd (omega (
              arith,
              bad_after (x.inside ++ 34 ∷ []) x.is,
              stop,
              ap length e,
              length-append front
                  (92 ∷ byte ∷ others),
              length_quoted x,
              all,
            ))

-- the result for bytes that begin with a quote describes them
pub describe_text : (others : List ℕ) → Describes (34 ∷ others) (string_at (34 ∷ others))
unfolding string_at
describe_text others = by (closing_quote others) refl
  where
    by : (closed : Option ℕ) → closing_quote others ≡ closed → Describes (34 ∷ others) (string_at (34 ∷ others))
    by None h =
        rw h (offence L3 0 (λ place. open_string
        (record {
          inside = others;
          is = refl;
          endless =
              λ piece after is x. none (length x.inside) (sym h ∙ quoted_closes after is x);
        })) (omega arith))
      where
        none : (n : ℕ) → None ≡ Some n → ⊥
        none n e = cc
    by (Some n) h =
        let x = closing_reads others n h in
        let is : 34 ∷ others ≡ (34 ∷ (x.inside ++ 34 ∷ [])) ++ x.after =
        ap (λ (bytes : List ℕ). 34 ∷ bytes) (x.is ∙ sym (append_assoc x.inside (34 ∷ []) x.after)) in
        let quoted : IsQuoted is_on_line (34 ∷ (x.inside ++ 34 ∷ [])) =
        record { inside = x.inside; is = refl; reads = x.reads } in
        subst (λ (p : Piece). Describes (34 ∷ others) p) (sym (text_found x.after is quoted))
        (describe_closed x.after is refl quoted)
