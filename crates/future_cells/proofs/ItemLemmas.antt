-- What is at an index of a list, and of one that has changed.
--
--   `passes-found`, `passes-there`     what passes is there, where a test does not pass where nothing is
--   `slice_get-set_same`, `slice_get-set_other`, `slice_get-set_cases`     where one item is replaced
--   `set-found`                an item is replaced by itself
--   `take-written`             a list is written over another one
--   `slice_get-of_map`         an item of a mapped list
--   `take-next_set`            the next item is put in the place of another one
--   `next-there`               there is a place for the next item
--   `IfNone-then`              what follows from what is so where nothing is
use Rattle.std.proofs.Common.{◌≡◌, ◌≢◌, ◌⊎◌, inl, inr, ⊎_elim, ℕ, zero, suc, ◌<◌, ◌≤◌, ◌+◌, ◌-◌, Bool, true, false, List, [], ◌∷◌, ◌++◌, length, length-take-le, map, option_map, set, take, drop, slice_get, Option, Some, None, IfNone, arith, refl, sym, ap, ◌∙◌, subst}
use Rattle.std.proofs.lemmas.Bool.{cases_lt, true≢false}
use Rattle.std.proofs.lemmas.List.{take-append-le, take_all, length-append, set-append_right}
use Rattle.std.proofs.lemmas.Option.{none-some, same_Some, slice_get_past, slice_get_within, slice_get-map}
use Rattle.list_facts.proofs.EntryLemmas.{slice_get-there, take-found}

-- where a test does not pass where nothing is, what passes is something
pub passes-found : {A : Type 0} (passes : Option A → Bool) (items : List A) (index : ℕ) → passes None ≡ false
    → passes (slice_get items index) ≡ true
    → (item : A) × (slice_get items index ≡ Some item) × (passes (Some item) ≡ true)
passes-found {A} passes items index none is =
    ⊎_elim
    (λ within. let item = slice_get-there items index within in
    (item.0, item.1, subst (λ (found : Option A). passes found ≡ true) item.1 is))
    (λ past. absurd (true≢false
    (sym is ∙ (ap passes (slice_get_past items index past) ∙ none))))
    (cases_lt index (length items))

-- so its index is one of the list
pub passes-there : {A : Type 0} (passes : Option A → Bool) (items : List A) (index : ℕ) → passes None ≡ false
    → passes (slice_get items index) ≡ true → index < length items
passes-there passes items index none is =
    let found = passes-found passes items index none is in slice_get_within items index found.0 found.1

-- the new item is at its index
pub slice_get-set_same : {A : Type 0} (items : List A) (index : ℕ) (item : A) → index < length items
    → slice_get (set items index item) index ≡ Some item
slice_get-set_same [] index item there = absurd (omega (arith, there))
slice_get-set_same (first ∷ items) zero item there = refl
slice_get-set_same (first ∷ items) (suc index) item there =
    slice_get-set_same items index item (omega (arith, there))

-- at another index is what was there
pub slice_get-set_other : {A : Type 0} (items : List A) (index other : ℕ) (item : A) → other ≢ index
    → slice_get (set items index item) other ≡ slice_get items other
slice_get-set_other [] index other item differs = refl
slice_get-set_other (first ∷ items) zero zero item differs = absurd (differs refl)
slice_get-set_other (first ∷ items) zero (suc other) item differs = refl
slice_get-set_other (first ∷ items) (suc index) zero item differs = refl
slice_get-set_other (first ∷ items) (suc index) (suc other) item differs =
    slice_get-set_other items index other item (λ same. differs (ap suc same))

-- after an item is replaced, an item is the new one or an old one
pub slice_get-set_cases : {A : Type 0} (items : List A) (index other : ℕ) (item found : A)
    → slice_get (set items index item) other ≡ Some found
    → ((other ≡ index) × (found ≡ item)) ⊎ ((other ≢ index) × (slice_get items other ≡ Some found))
slice_get-set_cases [] index other item found is = absurd (none-some found is)
slice_get-set_cases (first ∷ items) zero zero item found is = inl (refl, sym (same_Some item found is))
slice_get-set_cases (first ∷ items) zero (suc other) item found is = inr ((λ same. absurd cc), is)
slice_get-set_cases (first ∷ items) (suc index) zero item found is = inr ((λ same. absurd cc), is)
slice_get-set_cases (first ∷ items) (suc index) (suc other) item found is =
    ⊎_elim (λ here. inl (ap suc here.0, here.1))
    (λ elsewhere. inr ((λ same. elsewhere.0 (suc_same other index same)), elsewhere.1))
    (slice_get-set_cases items index other item found is)
  where
    suc_same : (one other : ℕ) → suc one ≡ suc other → one ≡ other
    suc_same one other same = omega (arith, same)

-- a list stays as it is where an item is replaced by itself
pub set-found : {A : Type 0} (items : List A) (index : ℕ) (item : A) → slice_get items index ≡ Some item
    → set items index item ≡ items
set-found [] index item is = absurd (none-some item is)
set-found {A} (first ∷ items) zero item is = ap (λ (one : A). one ∷ items) (sym (same_Some first item is))
set-found {A} (first ∷ items) (suc index) item is =
    ap (λ (others : List A). first ∷ others) (set-found items index item is)

-- a list that was written over another one of its length
pub take-written : {A : Type 0} (now items : List A) (count : ℕ) → length now ≡ length items → count ≡ length items
    → take count (now ++ drop (length now) items) ≡ now
take-written now items count same all =
    take-append-le count now (drop (length now) items) (omega arith) ∙ take_all count now (omega arith)

-- an item of a mapped list
pub slice_get-of_map : {A B : Type 0} (f : A → B) (items : List A) (index : ℕ) (item : A)
    → slice_get items index ≡ Some item → slice_get (map f items) index ≡ Some (f item)
slice_get-of_map f items index item there = slice_get-map f items index ∙ ap (option_map f) there

-- nothing is left of a number without itself
minus-self : (n : ℕ) → n - n ≡ 0
minus-self n = omega arith

-- the items before an index with another item behind, where that is replaced by the next one
pub take-next_set : {A : Type 0} (items : List A) (index : ℕ) (item other : A) → slice_get items index ≡ Some item
    → set (take index items ++ other ∷ []) index item ≡ take (index + 1) items
take-next_set {A} items index item other there =
    let within = slice_get_within items index item there in
    let front = length-take-le index items (omega (arith, within)) in
    set-append_right (take index items) (other ∷ []) index index item front (omega arith)
    ∙ ap (λ (n : ℕ). take index items ++ set (other ∷ []) n item) (minus-self index)
    ∙ sym (take-found items index item there)

-- there is a place for an item behind those before an index
pub next-there : {A : Type 0} (items others : List A) (index : ℕ) (other : A) → index ≤ length items
    → others ≡ take index items ++ other ∷ [] → index < length others
next-there items others index other within is =
    omega (arith, ap length is, length-append (take index items) (other ∷ []), length-take-le index items within)

-- what follows from what is so where there is no value
pub IfNone-then : {X P Q : Type 0} (found : Option X) → IfNone found P → (P → Q) → IfNone found Q
IfNone-then None is then = then is
IfNone-then (Some value) is then = tt
