-- The longest prefix of a list of bytes that is UTF-8.
use Rattle.std.proofs.Common.{Bool, List, ℕ, take, ◌≡◌, cond, true, false, zero, suc, refl, ◌<◌, ◌≤◌, arith, ◌⊎◌, inr, inl, sym, ◌∙◌, subst, length, ap}
use Rattle.std.specs.Str.{is_utf8, IsValidUpTo}
use Rattle.std.specs.Prelude.{IsUtf8}
use Rattle.std.proofs.lemmas.Str.{IsUtf8-from_is_utf8, IsUtf8-nil, is_utf8-from_IsUtf8, utf8_valid_len_le}
use Rattle.std.specs.Str.Lossy.{valid_len_up_to, utf8_valid_len}
use Rattle.std.proofs.lemmas.Bool.{cases_lt, false≢true}
use Rattle.std.proofs.lemmas.List.{take_all}

-- the prefix that the search for the longest one finds is UTF-8
front_by : (b : Bool) (bytes : List ℕ) (n m : ℕ) → is_utf8 (take n bytes) ≡ b → IsUtf8 (take m bytes)
    → IsUtf8 (take (cond b n m) bytes)
front_by true bytes n m h rest = IsUtf8-from_is_utf8 (take n bytes) h
front_by false bytes n m h rest = rest

front_valid : (bytes : List ℕ) (n : ℕ) → IsUtf8 (take (valid_len_up_to bytes n) bytes)
front_valid bytes zero = IsUtf8-nil
front_valid bytes (suc n) = front_by (is_utf8 (take (suc n) bytes)) bytes (suc n) (valid_len_up_to bytes n) refl
    (front_valid bytes n)

-- and a longer prefix is not
longer_by : (b : Bool) (bytes : List ℕ) (n k : ℕ) → is_utf8 (take (suc n) bytes) ≡ b
    → cond b (suc n) (valid_len_up_to bytes n) < k → k ≤ suc n
    → (valid_len_up_to bytes n < k → k ≤ n → IsUtf8 (take k bytes) → ⊥) → IsUtf8 (take k bytes) → ⊥
longer_by true bytes n k h above below rest valid = absurd (omega arith)
longer_by false bytes n k h above below rest valid = last (cases_lt n k)
  where
    last : (n < k) ⊎ (k ≤ n) → ⊥
    last (inr within) = rest above within valid
    last (inl past) =
        let same : k ≡ suc n = omega arith in
        false≢true (sym h ∙ is_utf8-from_IsUtf8 (take (suc n) bytes)
        (subst (λ (m : ℕ). IsUtf8 (take m bytes)) same valid))

longer_broken : (bytes : List ℕ) (n k : ℕ) → valid_len_up_to bytes n < k → k ≤ n → IsUtf8 (take k bytes) → ⊥
longer_broken bytes zero k above below valid = absurd (omega arith)
longer_broken bytes (suc n) k above below valid =
    longer_by (is_utf8 (take (suc n) bytes)) bytes n k refl above below (λ a b v. longer_broken bytes n k a b v) valid

-- bytes that are not UTF-8 are valid up to their longest prefix that is
pub broken : (bytes : List ℕ) → utf8_valid_len bytes < length bytes → IsValidUpTo bytes (utf8_valid_len bytes)
unfolding utf8_valid_len
broken bytes h = record {
  short = h;
  front = front_valid bytes (length bytes);
  longest =
      λ k above. last k above (cases_lt (length bytes) k);
}
  where
    last : (k : ℕ) → valid_len_up_to bytes (length bytes) < k → (length bytes < k) ⊎ (k ≤ length bytes)
        → IsUtf8 (take k bytes) → ⊥
    last k above (inr within) valid = longer_broken bytes (length bytes) k above within valid
    last k above (inl past) valid =
        longer_broken bytes (length bytes) (length bytes) h (omega arith)
        (subst (λ (xs : List ℕ). IsUtf8 xs)
        (take_all k bytes (omega arith) ∙ sym (take_all (length bytes) bytes (omega arith))) valid)

-- and bytes that are valid up to their end are UTF-8
pub unbroken : (bytes : List ℕ) → length bytes ≤ utf8_valid_len bytes → IsUtf8 bytes
unfolding utf8_valid_len
unbroken bytes h =
    let all : valid_len_up_to bytes (length bytes) ≡ length bytes = omega (arith, utf8_valid_len_le bytes) in
    subst (λ (xs : List ℕ). IsUtf8 xs) (ap (λ (n : ℕ). take n bytes) all ∙ take_all (length bytes) bytes (omega arith))
    (front_valid bytes (length bytes))
