-- Bytes begin in exactly one way: with white space, a comment or a token, or else with an offence.
use Rattle.std.proofs.Common.{◌≡◌, ℕ, ◌+◌, ◌<◌, ◌≤◌, List, [], ◌∷◌, ◌++◌, length, take, refl, sym, ap, ◌∙◌, arith, length-take-le}
use Rattle.std.proofs.Math.Seq.{take-append_seam}
use Rattle.std.proofs.lemmas.List.{append_cancel_left}
use Rattle.std.proofs.lemmas.List.Sums.{fold-append}
use Rattle.abs_tree.specs.declared.place.Place.{Place}
use Rattle.abs_tree.specs.declared.refusal.Code.{Code}
use Rattle.abs_tree.specs.declared.refusal.Offence.{Offence}
use Rattle.abs_tree.specs.Places.{place_after_byte as next_place, place_after}
use Rattle.abs_lexer.specs.declared.lexeme.Lexeme.{Lexeme}
use Rattle.abs_lexer.specs.declared.piece.Piece.{Piece}
use Rattle.abs_lexer.specs.declared.piece.Piece.TheVariants.{Blank, Token, Offence as Stop}
use Rattle.abs_lexer.specs.Forms.{IsForm, opens_comment, IsComment}
use Rattle.abs_lexer.specs.Forms.IsForm.{word, upper, number, text, sign}
use Rattle.abs_lexer.specs.Forms.IsComment.{line, block}
use Rattle.abs_lexer.specs.Tokens.{Lexed, Begins}
use Rattle.abs_lexer.specs.Tokens.Begins.{white, comment, lexeme}
use Rattle.abs_lexer.specs.Offences.{OffendsAt}
use Rattle.abs_lexer.specs.Scans.{piece_at}
use Rattle.abs_lexer.proofs.SignLemmas.{sign_some}
use Rattle.abs_lexer.proofs.ScanLemmas.{Describes}
use Rattle.abs_lexer.proofs.ScanLemmas.Describes.{white as describes_white, comment as describes_comment, token as describes_token, offence as describes_offence}
use Rattle.abs_lexer.proofs.FoundLemmas.{describe, IsFoundAs, begins_found}
use Rattle.abs_lexer.proofs.FoundLemmas.IsFoundAs.{blank, token}
use Rattle.abs_lexer.proofs.OffenceLemmas.{IsStopped, offends_found}

-- the bytes begin with a piece without offence, or with the offence that the scanner found
pub data Step (place : Place) (bytes : List ℕ) : Piece → Type 0 where
  begins : (found : Piece) (piece after : List ℕ) (tokens : List Lexed) → bytes ≡ piece ++ after
      → Begins place piece after tokens → Step place bytes found
  stops : (code : Code) (count : ℕ)
      → OffendsAt place bytes (record { code = code; place = place_after place (take count bytes) })
      → count ≤ length bytes → Step place bytes (Stop code count)

step_of : (place : Place) (bytes : List ℕ) (found : Piece) → Describes bytes found → Step place bytes found
step_of place bytes found (describes_white byte after is w) = begins found (byte ∷ []) after [] is (white byte refl w)
step_of place bytes found (describes_comment piece after count is x valid long) =
    begins found piece after [] is (comment x valid)
step_of place bytes found (describes_token kind piece after count is unopened x sound long) =
    begins found piece after (record { kind = kind; place = place; bytes = piece } ∷ []) is
    (lexeme kind (ap opens_comment (sym is) ∙ unopened) x sound)
step_of place bytes found (describes_offence code count offends few) = stops code count (offends place) few

-- bytes that are not empty begin with one of them
pub step : (place : Place) (bytes : List ℕ) → 0 < length bytes → Step place bytes (piece_at bytes)
step place bytes some = step_of place bytes (piece_at bytes) (describe bytes some)

-- a piece that has the form of a token is not empty
pub form_some : {kind : Lexeme} {piece : List ℕ} → IsForm kind piece → 0 < length piece
form_some (word x e) = omega (arith, ap length x.is)
form_some (upper x e) = omega (arith, ap length x.is)
form_some (number x e) = x.some
form_some (text x e) = omega (arith, ap length x.is)
form_some (sign p is e) = omega (arith, ap length is, sign_some p)

pub comment_some : {piece after : List ℕ} → IsComment piece after → 0 < length piece
comment_some (line inside is h ends) = omega (arith, ap length is)
comment_some (block inside is none) = omega (arith, ap length is)

-- nor is any first piece without offence
pub begins_some : {place : Place} {piece after : List ℕ} {tokens : List Lexed} → Begins place piece after tokens
    → 0 < length piece
begins_some (white byte is w) = omega (arith, ap length is)
begins_some (comment x valid) = comment_some x
begins_some (lexeme kind unopened x sound) = form_some x.form

-- two first pieces, their rests and their tokens are the same
pub record SameFront (piece other after more : List ℕ) (tokens others : List Lexed) : Type 0 where
  pub piece_is : piece ≡ other
  pub after_is : after ≡ more
  pub tokens_are : tokens ≡ others

-- two prefixes of the same length are equal
same_piece : {bytes : List ℕ} (piece other after more : List ℕ) → bytes ≡ piece ++ after → bytes ≡ other ++ more
    → length piece ≡ length other → piece ≡ other
same_piece {bytes} piece other after more is e long =
    sym (take-append_seam piece after)
    ∙ (ap (λ (bs : List ℕ). take (length piece) bs) (sym is ∙ e)
    ∙ (ap (λ (n : ℕ). take n (other ++ more)) long ∙ take-append_seam other more))

blank_length : (m n : ℕ) → Blank m ≡ Blank n → m ≡ n
blank_length m n h = cc

token_parts : (kind other : Lexeme) (m n : ℕ) → Token kind m ≡ Token other n → (kind ≡ other) × (m ≡ n)
token_parts kind other m n h = (cc, cc)

same_front : {bytes : List ℕ} (piece other after more : List ℕ) (tokens others : List Lexed) → bytes ≡ piece ++ after
    → bytes ≡ other ++ more → length piece ≡ length other
    → (piece ≡ other → tokens ≡ others) → SameFront piece other after more tokens others
same_front piece other after more tokens others is e long f =
    let same = same_piece piece other after more is e long in
    let rest : piece ++ after ≡ piece ++ more = sym is ∙ (e ∙ ap (λ (p : List ℕ). p ++ more) (sym same)) in
    record { piece_is = same; after_is = append_cancel_left piece after more rest; tokens_are = f same }

-- two first pieces without offence of the same bytes are the same
pub begins_once : {place : Place} {bytes : List ℕ} (piece other after more : List ℕ) (tokens others : List Lexed)
    → bytes ≡ piece ++ after → bytes ≡ other ++ more
    → Begins place piece after tokens → Begins place other more others → SameFront piece other after more tokens others
begins_once {place} {bytes} piece other after more tokens others is e x y =
    by (begins_found piece after is x) (begins_found other more e y)
  where
    by : IsFoundAs place piece tokens (piece_at bytes) → IsFoundAs place other others (piece_at bytes)
        → SameFront piece other after more tokens others
    by (blank f none) (blank g nor) =
        same_front piece other after more tokens others is e (blank_length (length piece) (length other) (sym f ∙ g))
        (λ same. none ∙ sym nor)
    by (blank f none) (token kind g one) = let clash : Blank (length piece) ≡ Token kind (length other) =
        sym f ∙ g in cc
    by (token kind f one) (blank g none) = let clash : Token kind (length piece) ≡ Blank (length other) =
        sym f ∙ g in cc
    by (token kind f one) (token kind' g other_one) =
        let parts = token_parts kind kind' (length piece) (length other) (sym f ∙ g) in
        same_front piece other after more tokens others is e parts.1
        (λ same. one ∙ (same_token kind kind' piece other parts.0 same ∙ sym other_one))
      where
        same_token : (k l : Lexeme) (p q : List ℕ) → k ≡ l → p ≡ q
            → ◌≡◌ {A = List Lexed} (record { kind = k; place = place; bytes = p } ∷ [])
            (record { kind = l; place = place; bytes = q } ∷ [])
        same_token k l p q e f = rw (e, f) refl

-- a first piece that is white space, a comment or a token has no offence
pub begins_or_stops : {place : Place} {bytes : List ℕ} (piece after : List ℕ) {tokens : List Lexed} {offence : Offence}
    → bytes ≡ piece ++ after → Begins place piece after tokens
    → OffendsAt place bytes offence → ⊥
begins_or_stops {place} {bytes} piece after {tokens} {offence} is x y =
    by (begins_found piece after is x) (offends_found y)
  where
    by : IsFoundAs place piece tokens (piece_at bytes) → IsStopped place bytes offence → ⊥
    by (blank f none) s = let clash : Blank (length piece) ≡ Stop offence.code s.count = sym f ∙ s.found in cc
    by (token kind f one) s = let clash : Token kind (length piece) ≡ Stop offence.code s.count = sym f ∙ s.found in cc

-- the place after two pieces
pub place-append : (place : Place) (xs ys : List ℕ)
    → place_after place (xs ++ ys) ≡ place_after (place_after place xs) ys
place-append place xs ys = fold-append next_place place xs ys

-- the offset after some bytes
pub offset_after : (place : Place) (bytes : List ℕ) → (place_after place bytes).offset ≡ place.offset + length bytes
offset_after place [] = omega arith
offset_after place (byte ∷ bytes) = let rest = offset_after (next_place place byte) bytes in omega (arith, rest)

stop_parts : (code other : Code) (m n : ℕ) → Stop code m ≡ Stop other n → (code ≡ other) × (m ≡ n)
stop_parts code other m n h = (cc, cc)

-- the offset of an offence that was found
stopped_offset : {place : Place} {bytes : List ℕ} {offence : Offence} (x : IsStopped place bytes offence)
    → offence.place.offset ≡ place.offset + x.front
stopped_offset {place} {bytes} x =
    omega (
      arith,
      ap (λ (p : Place). p.offset) x.place_is,
      offset_after place (take x.front bytes),
      length-take-le x.front
          bytes x.within,
    )

-- no offence of the first piece comes before the one that stops the scanner
pub stops_first : {place : Place} {bytes : List ℕ} (code : Code) (count : ℕ) {other : Offence}
    → piece_at bytes ≡ Stop code count → count ≤ length bytes → OffendsAt place bytes other
    → (place_after place (take count bytes)).offset ≤ other.place.offset
stops_first {place} {bytes} code count {other} found few y =
    let x = offends_found y in
    let same = stop_parts code other.code count x.count (sym found ∙ x.found) in
    let here = offset_after place (take count bytes) in
    let long = length-take-le count bytes few in
    omega (arith, here, long, stopped_offset x, same.1, x.least)

-- two offences of the first piece at the same offset are equal
pub offends_once : {place : Place} {bytes : List ℕ} {one other : Offence} → OffendsAt place bytes one
    → OffendsAt place bytes other → one.place.offset ≡ other.place.offset → one ≡ other
offends_once {place} {bytes} {one} {other} x y same =
    let s = offends_found x in
    let t = offends_found y in
    let codes_same = stop_parts one.code other.code s.count t.count (sym s.found ∙ t.found) in
    let fronts : s.front ≡ t.front = omega (arith, same, stopped_offset s, stopped_offset t) in
    same_offence one other codes_same.0
    (s.place_is ∙ (ap (λ (n : ℕ). place_after place (take n bytes)) fronts ∙ sym t.place_is))
  where
    same_offence : (o p : Offence) → o.code ≡ p.code → o.place ≡ p.place → o ≡ p
    same_offence o p e f = rw (e, f) refl
