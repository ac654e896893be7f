-- What words keep as bits, and what a write to them leaves.
use Rattle.std.proofs.Common.{◌≡◌, ℕ, zero, suc, ◌*◌, ◌/◌, ◌%◌, ◌^◌, ◌<◌, ◌≤◌, Bool, false, ◌||◌, List, length, get_or, set, map, replicate, nat_eq, refl, sym, ap, ◌∙◌, subst, inl, inr, max, bit_and, bit_or, arith, w64}
use Rattle.std.specs.Int.{bit_at}
use Rattle.std.specs.Int.Bits.{or_zero_r}
use Rattle.std.specs.Vec.{with_items}
use Rattle.std.specs.declared.alloc.Global.{Global}
use Rattle.std.specs.declared.vec.Vec.{Vec}
use Rattle.std.specs.List.{range_with_len}
use Rattle.std.proofs.lemmas.Bool.{cases_lt, cases_eq, eq-eqb, ne_eqb}
use Rattle.std.proofs.lemmas.List.{get_or_past, get_or-set_same, get_or-set_other, get_or-replicate, length-replicate, with_items_is}
use Rattle.std.proofs.lemmas.List.FromFn.{get_or-map-range_with_len, length-map-range_with_len}
use Rattle.std.proofs.lemmas.Nat.Bits.{bit_at-zero, bit_at-lt, bit_at_or, bit_at_set_same, bit_at_set_other, shr_and_one}
use Rattle.abs_graph.specs.BitSets.{has, word_has, bits_of}

-- past their end words have no number
pub word_has-past : (words : List ℕ) (number : ℕ) → length words ≤ number / 64 → word_has words number ≡ false
unfolding word_has
word_has-past words number past =
    ap (λ (word : ℕ). nat_eq (bit_at word (number % 64)) 1) (get_or_past words (number / 64) 0 past)
    ∙ ap (λ (bit : ℕ). nat_eq bit 1) (bit_at-zero (number % 64))

-- what the code reads of a word
pub word_has-read : (words : List ℕ) (number word : ℕ) → word ≡ get_or words (number / 64) 0
    → nat_eq (bit_and (word / 2 ^ (number % 64)) 1) 1 ≡ word_has words number
unfolding word_has
word_has-read words number word is =
    ap (λ (bit : ℕ). nat_eq bit 1) (shr_and_one word (number % 64))
    ∙ ap (λ (w : ℕ). nat_eq (bit_at w (number % 64)) 1) is

-- the bits of words have what they have
pub has-bits_of : (words : List ℕ) (number : ℕ) → has (bits_of words) number ≡ word_has words number
unfolding bits_of
has-bits_of words number = elim (cases_lt number (64 * length words)) [
  | inl less ↦ get_or-map-range_with_len (word_has words) 0 (64 * length words) number number false less (omega arith)
  | inr over ↦
      let short : length (map (word_has words) (range_with_len 0 (64 * length words))) ≤ number =
      omega (arith, length-map-range_with_len (word_has words) 0 (64 * length words)) in
      get_or_past (map (word_has words) (range_with_len 0 (64 * length words))) number false short
      ∙ sym (word_has-past words number (omega arith))
]

-- there are 64 bits for each word
pub length-bits_of : (words : List ℕ) → length (bits_of words) ≡ 64 * length words
unfolding bits_of
length-bits_of words = length-map-range_with_len (word_has words) 0 (64 * length words)

-- words after the bit of a number was set
pub word_has-set : (words : List ℕ) (number other : ℕ) → number < 64 * length words
    → word_has (set words (number / 64)
    (bit_or (get_or words (number / 64) 0) (1 * 2 ^ (number % 64) % 18446744073709551616))) other
    ≡ (nat_eq number other || word_has words other)
unfolding word_has
word_has-set words number other within =
    let old : ℕ = get_or words (number / 64) 0 in
    let new : ℕ = bit_or old (1 * 2 ^ (number % 64) % 18446744073709551616) in
    let inside : number / 64 < length words = omega arith in
    let low : number % 64 < 64 = omega arith in
    elim (cases_eq number other) [
      | inl same ↦
          let written : get_or (set words (number / 64) new) (number / 64) 0 ≡ new =
          get_or-set_same words (number / 64) new 0 inside in
          let bit : bit_at (get_or (set words (number / 64) new) (number / 64) 0) (number % 64) ≡ 1 =
          ap (λ (word : ℕ). bit_at word (number % 64)) written ∙ bit_at_set_same w64 old (number % 64) low in
          subst (λ (n : ℕ). nat_eq (bit_at (get_or (set words (number / 64) new) (n / 64) 0) (n % 64)) 1
          ≡ (nat_eq number n || nat_eq (bit_at (get_or words (n / 64) 0) (n % 64)) 1)) same
          (ap (λ (b : ℕ). nat_eq b 1) bit
          ∙ sym (ap (λ (b : Bool). b || nat_eq (bit_at old (number % 64)) 1) (eq-eqb number number refl)))
      | inr differ ↦
          let apart : (nat_eq number other || nat_eq (bit_at (get_or words (other / 64) 0) (other % 64)) 1)
          ≡ nat_eq (bit_at (get_or words (other / 64) 0) (other % 64)) 1 =
          ap (λ (b : Bool). b || nat_eq (bit_at (get_or words (other / 64) 0) (other % 64)) 1)
          (ne_eqb number other differ) in
          elim (cases_eq (other / 64) (number / 64)) [
            | inl at ↦
                let written : get_or (set words (number / 64) new) (other / 64) 0 ≡ new =
                ap (λ (i : ℕ). get_or (set words (number / 64) new) i 0) at
                ∙ get_or-set_same words (number / 64) new 0 inside in
                let kept : bit_at new (other % 64) ≡ bit_at old (other % 64) =
                bit_at_set_other w64 old (number % 64) low (other % 64) (λ e. differ (omega arith)) in
                ap (λ (word : ℕ). nat_eq (bit_at word (other % 64)) 1) written
                ∙ (ap (λ (b : ℕ). nat_eq b 1) kept
                ∙ (ap (λ (i : ℕ). nat_eq (bit_at (get_or words i 0) (other % 64)) 1) (sym at) ∙ sym apart))
            | inr away ↦
                ap (λ (word : ℕ). nat_eq (bit_at word (other % 64)) 1)
                (get_or-set_other words (number / 64) (other / 64) new 0 away)
                ∙ sym apart
          ]
    ]

-- the greater one of two bits is set where one of them is
max_bit : (a b : ℕ) → a < 2 → b < 2 → nat_eq (max a b) 1 ≡ (nat_eq a 1 || nat_eq b 1)
max_bit zero zero _ _ = refl
max_bit zero (suc zero) _ _ = refl
max_bit (suc zero) zero _ _ = refl
max_bit (suc zero) (suc zero) _ _ = refl
max_bit (suc (suc a)) b low _ = absurd (omega arith)
max_bit zero (suc (suc b)) _ low = absurd (omega arith)
max_bit (suc zero) (suc (suc b)) _ low = absurd (omega arith)

-- words of which each one has the bits of two words
pub word_has-or : (new old others : List ℕ) (number : ℕ)
    → get_or new (number / 64) 0 ≡ bit_or (get_or old (number / 64) 0) (get_or others (number / 64) 0)
    → word_has new number ≡ (word_has old number || word_has others number)
unfolding word_has
word_has-or new old others number is =
    let a : ℕ = get_or old (number / 64) 0 in
    let b : ℕ = get_or others (number / 64) 0 in
    ap (λ (word : ℕ). nat_eq (bit_at word (number % 64)) 1) is
    ∙ (ap (λ (bit : ℕ). nat_eq bit 1) (bit_at_or a b (number % 64))
    ∙ max_bit (bit_at a (number % 64)) (bit_at b (number % 64)) (bit_at-lt a (number % 64)) (bit_at-lt b (number % 64)))

-- words to each of which a word of others was added, as far as there are others
pub word_has-join : (new old others : List ℕ) (bound : ℕ)
    → ((k : ℕ) → k < bound → get_or new k 0 ≡ bit_or (get_or old k 0) (get_or others k 0))
    → ((k : ℕ) → bound ≤ k → get_or new k 0 ≡ get_or old k 0) → length others ≤ bound
    → (number : ℕ) → word_has new number ≡ (word_has old number || word_has others number)
word_has-join new old others bound joined kept whole number = elim (cases_lt (number / 64) bound) [
  | inl less ↦ word_has-or new old others number (joined (number / 64) less)
  | inr over ↦
      let past : length others ≤ number / 64 = omega arith in
      let none : bit_or (get_or old (number / 64) 0) (get_or others (number / 64) 0) ≡ get_or old (number / 64) 0 =
      ap (bit_or (get_or old (number / 64) 0)) (get_or_past others (number / 64) 0 past)
      ∙ or_zero_r (get_or old (number / 64) 0) in
      word_has-or new old others number (kept (number / 64) over ∙ sym none)
]

-- words that are all zero have no number
pub word_has-none : (count number : ℕ) → word_has (replicate count 0) number ≡ false
unfolding word_has
word_has-none count number = elim (cases_lt (number / 64) count) [
  | inl less ↦
      ap (λ (word : ℕ). nat_eq (bit_at word (number % 64)) 1) (get_or-replicate count (number / 64) 0 0 less)
      ∙ ap (λ (bit : ℕ). nat_eq bit 1) (bit_at-zero (number % 64))
  | inr over ↦
      let zeros : List ℕ = replicate count 0 in
      let short : length zeros ≡ count = length-replicate {A = ℕ} count 0 in
      word_has-past zeros number (omega (arith, short))
]

-- what words have, by the bits that they keep
pub word_has-view : (words items : List ℕ) (bits : List Bool) → words ≡ items → bits_of items ≡ bits → (number : ℕ)
    → word_has words number ≡ has bits number
word_has-view words items bits is view number =
    ap (λ (ws : List ℕ). word_has ws number) is
    ∙ (sym (has-bits_of items number) ∙ ap (λ (r : List Bool). has r number) view)

-- how many words there are, by the bits that they keep
pub length-view : (words items : List ℕ) (bits : List Bool) → words ≡ items → bits_of items ≡ bits
    → 64 * length words ≡ length bits
length-view words items bits is view =
    ap (λ (ws : List ℕ). 64 * length ws) is ∙ (sym (length-bits_of items) ∙ ap length view)

-- the bits of words that were written
pub has-written : (v : Vec ℕ Global) (new : List ℕ) (number : ℕ) → length new ≡ v.len
    → has (bits_of (with_items v new).items) number ≡ word_has new number
has-written v new number is =
    has-bits_of (with_items v new).items number ∙ ap (λ (ws : List ℕ). word_has ws number) (with_items_is v new is)

-- its length
pub length-written : (v : Vec ℕ Global) (new : List ℕ) → length new ≡ v.len
    → length (bits_of (with_items v new).items) ≡ 64 * length new
length-written v new is =
    length-bits_of (with_items v new).items
    ∙ ap (λ (ws : List ℕ). 64 * length ws) (with_items_is v new is)
