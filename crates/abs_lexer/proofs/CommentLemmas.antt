-- Bytes that begin with "//" or "/*": a comment that does not end, one with an offence in it, or one that is sound.
use Rattle.std.proofs.Common.{◌≡◌, ℕ, suc, ◌+◌, ◌<◌, ◌≤◌, ◌==◌, not, Bool, true, false, cond, List, [], ◌∷◌, ◌++◌, length, take, drop, refl, sym, ap, subst, ◌∙◌, arith, append_assoc, length-append, ◌⊎◌, inl, inr}
use Rattle.std.proofs.Math.Seq.{take-append_seam}
use Rattle.std.proofs.lemmas.Bool.{cases_lt}
use Rattle.std.proofs.lemmas.Bool.Decides.{nat_tests}
use Rattle.std.proofs.lemmas.List.{take-append-drop}
use Rattle.std.proofs.lemmas.List.Elements.{All-cons, All-same}
use Rattle.std.proofs.lemmas.Str.{utf8_valid_len-IsUtf8}
use Rattle.std.specs.List.{AllPass, prefix_len}
use Rattle.std.specs.Prelude.{Option, Some, None, IsUtf8, codes}
use Rattle.std.specs.Str.Lossy.{utf8_valid_len}
use Rattle.abs_tree.specs.declared.refusal.Code.TheVariants.{L1, L2}
use Rattle.abs_tree.specs.Places.{place_after}
use Rattle.abs_lexer.specs.declared.piece.Piece.{Piece}
use Rattle.abs_lexer.specs.declared.piece.Piece.TheVariants.{Blank}
use Rattle.abs_lexer.specs.Forms.{is_on_line, EndsLine, NowhereIn, IsComment}
use Rattle.abs_lexer.specs.Forms.IsComment.{line, block}
use Rattle.abs_lexer.specs.Offences.{OffendsAt}
use Rattle.abs_lexer.specs.Offences.OffendsAt.{open_comment, broken_comment}
use Rattle.abs_lexer.specs.Scans.{block_end, checked_piece, comment_checked, opens_line, line_at, opens_block, block_at}
use Rattle.abs_lexer.proofs.EndLemmas.{two_in_front, block_ends, block_reads}
use Rattle.abs_lexer.proofs.QuotedLemmas.{checked_offence, checked_sound, front_of_piece, broken_at}
use Rattle.abs_lexer.proofs.ScanLemmas.{Describes}
use Rattle.abs_lexer.proofs.ScanLemmas.Describes.{comment, offence}
use Rattle.list_facts.proofs.PrefixLemmas.{run_passes, run_ends, run_is}
use Rattle.list_facts.proofs.Utf8Lemmas.{unbroken}

-- where a line ends, no further byte is on it
pub line_stops : (after : List ℕ) → EndsLine after → prefix_len is_on_line after ≡ 0
line_stops [] h = refl
line_stops (byte ∷ others) h = rw h refl

stopped : (b : Bool) (byte n : ℕ) → not b ≡ not (byte == 10) → cond (not b) (1 + n) 0 ≡ 0 → b ≡ true
stopped true byte n e h = refl
stopped false byte n e h = absurd (omega arith)

stops_line : (after : List ℕ) → prefix_len is_on_line after ≡ 0 → EndsLine after
stops_line [] h = tt
stops_line (byte ∷ others) h =
    let test = stopped (byte == 10) byte (prefix_len is_on_line others) refl h in
    grind (arith, nat_tests)

-- all bytes of a "//" comment are on its line
on_line : {piece : List ℕ} (inside : List ℕ) → piece ≡ codes "//" ++ inside → AllPass is_on_line inside
    → AllPass is_on_line piece
on_line {piece} inside is h =
    All-same (λ byte. is_on_line byte ≡ true) piece (47 ∷ 47 ∷ inside) is
    (All-cons (λ byte. is_on_line byte ≡ true) 47 (47 ∷ inside) refl
    (All-cons (λ byte. is_on_line byte ≡ true) 47 inside refl h))

-- the scanner finds a comment up to the end of its line
pub line_found : {bytes piece : List ℕ} (after inside : List ℕ) → bytes ≡ piece ++ after → piece ≡ codes "//" ++ inside
    → AllPass is_on_line inside → EndsLine after
    → line_at bytes ≡ comment_checked piece
unfolding line_at
line_found {bytes} {piece} after inside is e h ends =
    let count : prefix_len is_on_line bytes ≡ length piece =
    ap (prefix_len is_on_line) is ∙ run_is is_on_line piece after (on_line inside e h) (line_stops after ends) in
    let front : take (prefix_len is_on_line bytes) bytes ≡ piece =
    ap (λ (n : ℕ). take n bytes) count
    ∙ (ap (λ (bs : List ℕ). take (length piece) bs) is ∙ take-append_seam piece after) in
    ap comment_checked front

-- the scanner finds a comment from "/*" to the next "*/"
pub block_found : {bytes piece : List ℕ} (after inside : List ℕ) → bytes ≡ piece ++ after
    → piece ≡ codes "/*" ++ (inside ++ codes "*/") → NowhereIn inside (codes "*/")
    → block_at bytes ≡ comment_checked piece
unfolding block_at
block_found {bytes} {piece} after inside is e none =
    let rest : drop 2 bytes ≡ inside ++ (codes "*/" ++ after) =
    ap (λ (bs : List ℕ). drop 2 bs) is
    ∙ (ap (λ (p : List ℕ). drop 2 (p ++ after)) e ∙ append_assoc inside (codes "*/") after) in
    let ends : block_end (drop 2 bytes) ≡ Some (length inside) = ap block_end rest ∙ block_ends inside after none in
    let long : length piece ≡ length inside + 4 = omega (arith, ap length e, length-append inside (codes "*/")) in
    let front : take (length inside + 4) bytes ≡ piece =
    ap (λ (n : ℕ). take n bytes) (sym long)
    ∙ (ap (λ (bs : List ℕ). take (length piece) bs) is ∙ take-append_seam piece after) in
    rw ends (ap comment_checked front)

-- a comment that is UTF-8 is sound
pub comment_sound : {piece : List ℕ} → IsUtf8 piece → comment_checked piece ≡ Blank (length piece)
unfolding comment_checked
comment_sound {piece} valid = checked_sound (Blank (length piece)) (utf8_valid_len piece) piece
    (omega (arith, utf8_valid_len-IsUtf8 piece valid))

-- the result for a comment that ends describes the bytes
describe_ended : {bytes piece : List ℕ} (after : List ℕ) → bytes ≡ piece ++ after → IsComment piece after
    → Describes bytes (comment_checked piece)
unfolding comment_checked
describe_ended {bytes} {piece} after is x = by (cases_lt (utf8_valid_len piece) (length piece))
  where
    by : (utf8_valid_len piece < length piece) ⊎ (length piece ≤ utf8_valid_len piece)
        → Describes bytes (checked_piece (Blank (length piece)) (utf8_valid_len piece) piece)
    by (inl short) =
        subst (λ (p : Piece). Describes bytes p)
        (sym (checked_offence (Blank (length piece)) (utf8_valid_len piece) piece short))
        (offence L1 (utf8_valid_len piece)
        (λ place. subst (λ (f : List ℕ). OffendsAt place bytes (record { code = L1; place = place_after place f }))
        (sym (front_of_piece piece after (utf8_valid_len piece) is (omega arith)))
        (broken_comment piece after (take (utf8_valid_len piece) piece) is x (broken_at piece short)))
        (omega (arith, short, ap length is, length-append piece after)))
    by (inr all) =
        subst (λ (p : Piece). Describes bytes p)
        (sym (checked_sound (Blank (length piece)) (utf8_valid_len piece) piece all))
        (comment piece after (length piece) is x (unbroken piece all) refl)

-- the result for bytes that begin with "//" describes them
pub describe_line : (bytes : List ℕ) → opens_line bytes ≡ true → Describes bytes (line_at bytes)
unfolding line_at
describe_line bytes h =
    let count = prefix_len is_on_line bytes in
    let is : bytes ≡ take count bytes ++ drop count bytes = sym (take-append-drop count bytes) in
    let opens = two_in_front 47 47 bytes h in
    let more : count ≡ suc (suc (prefix_len is_on_line (drop 2 bytes))) =
    ap (prefix_len is_on_line) opens ∙ omega arith in
    let piece : take count bytes ≡ codes "//" ++ take (prefix_len is_on_line (drop 2 bytes)) (drop 2 bytes) =
    ap (λ (n : ℕ). take n bytes) more
    ∙ ap (λ (bs : List ℕ). take (suc (suc (prefix_len is_on_line (drop 2 bytes)))) bs) opens in
    describe_ended (drop count bytes) is
    (line (take (prefix_len is_on_line (drop 2 bytes)) (drop 2 bytes)) piece (run_passes is_on_line (drop 2 bytes))
    (stops_line (drop count bytes) (run_ends is_on_line bytes)))

-- if no "*/" follows "/*", the bytes begin with no comment
endless : {bytes : List ℕ} (inside : List ℕ) → bytes ≡ codes "/*" ++ inside → block_end inside ≡ None
    → (piece after : List ℕ) → bytes ≡ piece ++ after → IsComment piece after → ⊥
endless {bytes} inside is none piece after e (line text x h ends) =
    let same : codes "/*" ++ inside ≡ codes "//" ++ (text ++ after) =
    sym is ∙ (e ∙ ap (λ (p : List ℕ). p ++ after) x) in
    let second : ◌≡◌ {A = ℕ} 42 47 = cc in
    omega (arith, second)
endless {bytes} inside is none piece after e (block text x nowhere) =
    let same : codes "/*" ++ inside ≡ codes "/*" ++ ((text ++ codes "*/") ++ after) =
    sym is ∙ (e ∙ ap (λ (p : List ℕ). p ++ after) x) in
    let rest : inside ≡ text ++ (codes "*/" ++ after) =
    ap (λ (bs : List ℕ). drop 2 bs) same ∙ append_assoc text (codes "*/") after in
    let ends : None ≡ Some (length text) = sym none ∙ (ap block_end rest ∙ block_ends text after nowhere) in
    cc

-- the result for bytes that begin with "/*" describes them
pub describe_block : (bytes : List ℕ) → opens_block bytes ≡ true → Describes bytes (block_at bytes)
unfolding block_at
describe_block bytes h = by (block_end (drop 2 bytes)) refl
  where
    by : (ended : Option ℕ) → block_end (drop 2 bytes) ≡ ended → Describes bytes (block_at bytes)
    by None e =
        rw e (offence L2 0 (λ place. open_comment
        (record {
          inside = drop 2 bytes;
          is = two_in_front 47 42 bytes h;
          endless =
              endless (drop 2 bytes) (two_in_front 47 42 bytes h) e;
        })) (omega arith))
    by (Some n) e =
        let x = block_reads (drop 2 bytes) n e in
        let is : bytes ≡ (codes "/*" ++ (x.inside ++ codes "*/")) ++ x.after =
        two_in_front 47 42 bytes h ∙ ap (λ (bs : List ℕ). 47 ∷ 42 ∷ bs)
        (x.is ∙ sym (append_assoc x.inside (codes "*/") x.after)) in
        subst (λ (p : Piece). Describes bytes p) (sym (block_found x.after x.inside is refl x.nowhere))
        (describe_ended x.after is (block x.inside refl x.nowhere))
