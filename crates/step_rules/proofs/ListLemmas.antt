-- Lists with one entry changed, and with one more entry.
--
--   `set-updated`                      to set an entry is to change it
--   `updated-same`, `updated-other`    the entry that was changed, and another one
--   `updated-entry`                    what an entry was before one was changed
--   `added-there`, `added-last`        an entry that was there, and the one that was added
--   `added-entry`                      what an entry was before one was added
--   `length-updated`, `length-added`   how long these lists are
use Rattle.std.proofs.Common.{◌≡◌, ◌≢◌, ◌⊎◌, ◌≤◌, ℕ, zero, suc, inl, inr, List, [], ◌∷◌, length, set, slice_get, Option, Some, None, refl, sym, ap, arith}
use Rattle.std.proofs.lemmas.List.{length-append}
use Rattle.std.proofs.lemmas.Option.{same_Some}
use Rattle.std.specs.Option.{option_map}
use Rattle.step_rules.specs.Changes.{updated, added}
use Rattle.list_facts.proofs.EntryLemmas.{slice_get-front, slice_get-next}

-- to set an entry is to change it
pub set-updated : {A : Type 0} (list : List A) (index : ℕ) (new : A)
    → set list index new ≡ updated (λ (entry : A). new) list index
set-updated [] index new = refl
set-updated (first ∷ others) zero new = refl
set-updated {A} (first ∷ others) (suc index) new = ap (λ (rest : List A). first ∷ rest) (set-updated others index new)

-- the entry that was changed
pub updated-same : {A : Type 0} (change : A → A) (list : List A) (index : ℕ) (entry : A)
    → slice_get list index ≡ Some entry → slice_get (updated change list index) index ≡ Some (change entry)
updated-same change [] index entry there = absurd cc
updated-same change (first ∷ others) zero entry there = ap (option_map change) there
updated-same change (first ∷ others) (suc index) entry there = updated-same change others index entry there

-- another entry than that which was changed
pub updated-other : {A : Type 0} (change : A → A) (list : List A) (index other : ℕ) (entry : A) → other ≢ index
    → slice_get list other ≡ Some entry → slice_get (updated change list index) other ≡ Some entry
updated-other change [] index other entry differs there = there
updated-other change (first ∷ others) zero zero entry differs there = absurd (differs refl)
updated-other change (first ∷ others) zero (suc other) entry differs there = there
updated-other change (first ∷ others) (suc index) zero entry differs there = there
updated-other change (first ∷ others) (suc index) (suc other) entry differs there =
    updated-other change others index other entry (λ same. differs (ap suc same)) there

-- a list is as long after an entry was changed
pub length-updated : {A : Type 0} (change : A → A) (list : List A) (index : ℕ)
    → length (updated change list index) ≡ length list
length-updated change [] index = refl
length-updated change (first ∷ others) zero = refl
length-updated change (first ∷ others) (suc index) = ap suc (length-updated change others index)

-- An entry after one was changed is as before, or it is that which was changed.
abbrev pub WasUpdated : {A : Type 0} → (A → A) → List A → ℕ → ℕ → A → Type 0
WasUpdated {A} change list index other entry = ((other ≢ index) × (slice_get list other ≡ Some entry))
    ⊎ ((other ≡ index) × (before : A) × (slice_get list other ≡ Some before) × (entry ≡ change before))

-- each entry after one was changed is one of these
pub updated-entry : {A : Type 0} (change : A → A) (list : List A) (index other : ℕ) (entry : A)
    → slice_get (updated change list index) other ≡ Some entry → WasUpdated change list index other entry
updated-entry change [] index other entry there = absurd cc
updated-entry change (first ∷ others) zero zero entry there = inr (refl, first, refl, sym (same_Some _ _ there))
updated-entry change (first ∷ others) zero (suc other) entry there = inl ((λ same. absurd cc), there)
updated-entry change (first ∷ others) (suc index) zero entry there = inl ((λ same. absurd cc), there)
updated-entry change (first ∷ others) (suc index) (suc other) entry there =
    next (updated-entry change others index other entry there)
  where
    next : WasUpdated change others index other entry
        → WasUpdated change (first ∷ others) (suc index) (suc other) entry
    next (inl old) = inl ((λ same. old.0 (omega (arith, same))), old.1)
    next (inr changed) = inr (ap suc changed.0, changed.1, changed.2, changed.3)

-- an entry stays where it is after one more was added
pub added-there : {A : Type 0} (new : Option A) (list : List A) (index : ℕ) (entry : A)
    → slice_get list index ≡ Some entry → slice_get (added new list) index ≡ Some entry
added-there None list index entry there = there
added-there (Some one) list index entry there = slice_get-front list (one ∷ []) index entry there

-- the entry that was added is the last one
pub added-last : {A : Type 0} (new : Option A) (list : List A) (count : ℕ) (entry : A) → new ≡ Some entry
    → count ≡ length list → slice_get (added new list) count ≡ Some entry
added-last new list count entry is counted = rw (is, counted) (slice_get-next list entry [])

-- a list is at least as long after one more entry was added
pub length-added : {A : Type 0} (new : Option A) (list : List A) → length list ≤ length (added new list)
length-added None list = omega arith
length-added (Some one) list = omega (arith, length-append list (one ∷ []))

-- An entry of a list with one more is an old one, or the new one at its end.
abbrev pub WasAdded : {A : Type 0} → Option A → List A → ℕ → A → Type 0
WasAdded new list index entry = (slice_get list index ≡ Some entry) ⊎ ((index ≡ length list) × (new ≡ Some entry))

-- each entry of a list with one more is one of these
pub added-entry : {A : Type 0} (new : Option A) (list : List A) (index : ℕ) (entry : A)
    → slice_get (added new list) index ≡ Some entry → WasAdded new list index entry
added-entry None list index entry there = inl there
added-entry (Some one) [] zero entry there = inr (refl, there)
added-entry (Some one) [] (suc index) entry there = absurd cc
added-entry (Some one) (first ∷ others) zero entry there = inl there
added-entry (Some one) (first ∷ others) (suc index) entry there = next (added-entry (Some one) others index entry there)
  where
    next : WasAdded (Some one) others index entry → WasAdded (Some one) (first ∷ others) (suc index) entry
    next (inl old) = inl old
    next (inr last) = inr (ap suc last.0, last.1)
