-- Where bytes stop being UTF-8, and where a comment ends, as the scanner finds both.
use Rattle.std.proofs.Common.{◌≡◌, ℕ, ◌+◌, Bool, true, false, List, [], ◌∷◌, ◌++◌, length, take, drop, refl, sym, ap, subst, ◌∙◌, arith, length-append}
use Rattle.std.proofs.lemmas.Bool.{false≢true, false_from_ne_true}
use Rattle.std.proofs.lemmas.List.{take-append-drop}
use Rattle.std.proofs.lemmas.Slice.Eq.{bytes_eq-Decides}
use Rattle.std.specs.Prelude.{Some, codes}
use Rattle.std.specs.Str.{bytes_eq}
use Rattle.abs_lexer.specs.Forms.{NowhereIn}
use Rattle.abs_lexer.specs.Scans.{block_end}
use Rattle.abs_lexer.proofs.TextLemmas.{further_some}

-- if the test for two first bytes passes, the bytes begin with them
pub two_in_front : (first second : ℕ) (bytes : List ℕ) → bytes_eq (take 2 bytes) (first ∷ second ∷ []) ≡ true
    → bytes ≡ first ∷ second ∷ drop 2 bytes
two_in_front first second bytes h =
    sym (take-append-drop 2 bytes) ∙ ap (λ (front : List ℕ). front ++ drop 2 bytes)
    ((bytes_eq-Decides (take 2 bytes) (first ∷ second ∷ [])).0 h)

-- no "*/" begins inside a comment, so it ends at the first one
ends_here : (byte : ℕ) (others after : List ℕ) → NowhereIn (byte ∷ others) (codes "*/")
    → bytes_eq (take 2 (byte ∷ (others ++ (codes "*/" ++ after)))) (codes "*/") ≡ true → ⊥
ends_here byte [] after none h = let same =
    two_in_front 42 47 (byte ∷ 42 ∷ 47 ∷ after) h in let second : ◌≡◌ {A = ℕ} 42 47 = cc in omega (arith, second)
ends_here byte (next ∷ others) after none h =
    let same = two_in_front 42 47 (byte ∷ next ∷ (others ++ (codes "*/" ++ after))) h in
    let first : byte ≡ 42 = cc in
    let second : next ≡ 47 = cc in
    none [] others (rw (first, second) refl)

-- a piece that occurs nowhere in bytes occurs nowhere in their rest after the first one
pub nowhere_rest : (byte : ℕ) (others piece : List ℕ) → NowhereIn (byte ∷ others) piece → NowhereIn others piece
nowhere_rest byte others piece none front after is =
    none (byte ∷ front) after (ap (λ (bytes : List ℕ). byte ∷ bytes) is)

pub block_ends : (inside after : List ℕ) → NowhereIn inside (codes "*/")
    → block_end (inside ++ (codes "*/" ++ after)) ≡ Some (length inside)
unfolding block_end
block_ends [] after none = refl
block_ends (byte ∷ others) after none =
    let here = false_from_ne_true (bytes_eq (take 2 (byte ∷ (others ++ (codes "*/" ++ after)))) (codes "*/"))
    (ends_here byte others after none) in
    let rest = block_ends others after (nowhere_rest byte others (codes "*/") none) in
    rw (here, rest) (ap (λ (n : ℕ). Some n) (omega arith))

-- a comment that ends after this many bytes
pub record Ends (bytes : List ℕ) (count : ℕ) : Type 0 where
  pub inside : List ℕ
  pub after : List ℕ
  pub is : bytes ≡ inside ++ (codes "*/" ++ after)
  pub nowhere : NowhereIn inside (codes "*/")
  pub count_is : length inside ≡ count

ends_first : (bytes : List ℕ) (n : ℕ) → bytes_eq (take 2 bytes) (codes "*/") ≡ true → Some 0 ≡ Some n → Ends bytes n
ends_first bytes n h e = record {
  inside = [];
  after = drop 2 bytes;
  is = two_in_front 42 47 bytes h;
  nowhere = λ front after is. let long = ap length is in omega (arith, long, length-append front (codes "*/" ++ after));
  count_is = cc;
}

-- if bytes do not begin with "*/", no prefix of them does
not_in_front : (byte : ℕ) (inside after : List ℕ) (rest : List ℕ)
    → bytes_eq (take 2 (byte ∷ (inside ++ rest))) (codes "*/") ≡ false → byte ∷ inside ≡ codes "*/" ++ after → ⊥
not_in_front byte [] after rest h is = let long = ap length is in omega (arith, long)
not_in_front byte (next ∷ inside) after rest h is =
    let first : byte ≡ 42 = cc in
    let second : next ≡ 47 = cc in
    let test : bytes_eq (byte ∷ next ∷ []) (codes "*/") ≡ true = rw (first, second) refl in
    false≢true (sym h ∙ test)

ends_later : (byte : ℕ) (others : List ℕ) (m n : ℕ) → bytes_eq (take 2 (byte ∷ others)) (codes "*/") ≡ false
    → Ends others m → n ≡ 1 + m → Ends (byte ∷ others) n
ends_later byte others m n h x e = record {
  inside = byte ∷ x.inside;
  after = x.after;
  is = ap (λ (bytes : List ℕ). byte ∷ bytes) x.is;
  nowhere = nowhere;
  count_is = omega (arith, x.count_is, e);
}
  where
    nowhere : NowhereIn (byte ∷ x.inside) (codes "*/")
    nowhere [] after is =
        not_in_front byte x.inside after (codes "*/" ++ x.after)
        (subst (λ (bytes : List ℕ). bytes_eq (take 2 (byte ∷ bytes)) (codes "*/") ≡ false) x.is h) is
    nowhere (first ∷ front) after is = x.nowhere front after cc

ends_by : (b : Bool) (byte : ℕ) (others : List ℕ) (n : ℕ) → bytes_eq (take 2 (byte ∷ others)) (codes "*/") ≡ b
    → block_end (byte ∷ others) ≡ Some n
    → ((m : ℕ) → block_end others ≡ Some m → Ends others m) → Ends (byte ∷ others) n
unfolding block_end
ends_by true byte others n h e reads = ends_first (byte ∷ others) n h (rw h at e)
ends_by false byte others n h e reads = let more =
    further_some 1 (block_end others) n (rw h at e) in ends_later byte others more.0 n h (reads more.0 more.1) more.2

pub block_reads : (bytes : List ℕ) (n : ℕ) → block_end bytes ≡ Some n → Ends bytes n
unfolding block_end
block_reads [] n e = cc
block_reads (byte ∷ others) n e =
    ends_by (bytes_eq (take 2 (byte ∷ others)) (codes "*/")) byte others n refl e (λ m x. block_reads others m x)
