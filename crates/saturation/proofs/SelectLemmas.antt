-- Which items of a list a filter keeps, and which facts of a list hold.
--
--   `IsKept`                           a number is of a range, and passes a test
--   `kept_is_found`, `found_is_kept`   such a number is among those of a range that pass, and only such are
--   `item_found`, `item_kept`          the item with a number, where the numbers of the items are those that pass
--   `held_among`                       one of some facts that hold
--   `held_together`, `held_first`, `held_second`   two lists of facts hold together
--   `among_split`, `only_one`          a fact that stands between others, and the only one of a list
use Rattle.std.proofs.Common.{◌≡◌, ◌⊎◌, inl, inr, ⊎_elim, ℕ, zero, suc, ◌+◌, ◌≤◌, ◌<◌, Bool, true, false, List, [], ◌∷◌, ◌++◌, Contains, Some, cond, map, filter, arith, refl, sym, ap, subst, ◌∙◌, eq-or-lt_of_le}
use Rattle.std.specs.Prelude.{slice_get}
use Rattle.std.specs.List.{range_with_len}
use Rattle.std.proofs.lemmas.List.Elements.{Contains-append_right, Contains-append_left, Contains-push}
use Rattle.std.proofs.lemmas.Option.{none-some, same_Some, slice_get-map}
use Rattle.contract_terms.specs.Derived.{AllHold}
use Rattle.list_facts.proofs.AllLemmas.{Contains-head_or_tail}
use Rattle.list_facts.proofs.EntryLemmas.{slice_get-mapped}

-- The number is of a range, and passes a test.
pub record IsKept (passes : ℕ → Bool) (start count number : ℕ) : Type 0 where
  pub after_start : start ≤ number
  pub before_end : number < start + count
  pub passed : passes number ≡ true

module _ {A : Type 0} (first : A) (others : List A) where
  -- the first item is kept where it passes
  first_is_kept : (test : Bool) → test ≡ true → slice_get (cond test (first ∷ others) others) 0 ≡ Some first
  first_is_kept true is = refl
  first_is_kept false is = absurd cc

  -- the others are there in any case
  other_is_kept : (test : Bool) (place : ℕ) (one : A) → slice_get others place ≡ Some one
      → (now : ℕ) × (slice_get (cond test (first ∷ others) others) now ≡ Some one)
  other_is_kept true place one is = (suc place, is)
  other_is_kept false place one is = (place, is)

  -- what is there is the first item, which passes, or one of the others
  kept_is_one : (test : Bool) (place : ℕ) (one : A) → slice_get (cond test (first ∷ others) others) place ≡ Some one
      → ((test ≡ true) × (first ≡ one)) ⊎ ((now : ℕ) × (slice_get others now ≡ Some one))
  kept_is_one true zero one is = inl (refl, same_Some first one is)
  kept_is_one true (suc place) one is = inr (place, is)
  kept_is_one false place one is = inr (place, is)

-- A number that passes is found.
pub kept_is_found : (passes : ℕ → Bool) (start count number : ℕ) → IsKept passes start count number
    → (place : ℕ) × (slice_get (filter passes (range_with_len start count)) place ≡ Some number)
kept_is_found passes start zero number kept = absurd (omega (arith, kept.after_start, kept.before_end))
kept_is_found passes start (suc count) number kept =
    let others = filter passes (range_with_len (start + 1) count) in
    ⊎_elim (λ same. (
      0,
      first_is_kept start others (passes start) (subst (λ (one : ℕ). passes one ≡ true) (sym same) kept.passed)
          ∙ ap Some same,
    ))
    (λ later.
    let rest = kept_is_found passes (start + 1) count number
    (record {
      after_start = omega (arith, later);
      before_end = omega (arith, kept.before_end);
      passed = kept.passed;
    }) in
    other_is_kept start others (passes start) rest.0 number rest.1)
    (eq-or-lt_of_le kept.after_start)

-- Only such numbers are found.
pub found_is_kept : (passes : ℕ → Bool) (start count place number : ℕ)
    → slice_get (filter passes (range_with_len start count)) place ≡ Some number → IsKept passes start count number
found_is_kept passes start zero place number is = absurd (none-some number is)
found_is_kept passes start (suc count) place number is =
    ⊎_elim (λ here. record {
      after_start = omega (arith, here.1);
      before_end = omega (arith, here.1);
      passed = subst (λ (one : ℕ). passes one ≡ true) here.1 here.0;
    })
    (λ later.
    let rest = found_is_kept passes (start + 1) count later.0 number later.1 in
    record {
      after_start = omega (arith, rest.after_start);
      before_end = omega (arith, rest.before_end);
      passed = rest.passed;
    })
    (kept_is_one start (filter passes (range_with_len (start + 1) count)) (passes start) place number is)

module _ {A : Type 0} (number_of : A → ℕ) (items : List A) (passes : ℕ → Bool) (start count : ℕ)
    (are : map number_of items ≡ filter passes (range_with_len start count)) where
  -- A number that passes is that of an item.
  pub item_found : (number : ℕ) → IsKept passes start count number
      → (place : ℕ) × (item : A) × (slice_get items place ≡ Some item) × (number_of item ≡ number)
  item_found number kept =
      let found = kept_is_found passes start count number kept in
      let item = slice_get-mapped number_of items found.0 number
      (ap (λ numbers. slice_get numbers found.0) are ∙ found.1) in
      (found.0, item.0, item.1, item.2)

  -- The number of an item passes.
  pub item_kept : (place : ℕ) (item : A) → slice_get items place ≡ Some item
      → IsKept passes start count (number_of item)
  item_kept place item is =
      found_is_kept passes start count place (number_of item)
      (ap (λ numbers. slice_get numbers place) (sym are)
      ∙ (slice_get-map number_of items place ∙ rw is refl))

module _ {Fact : Type 0} (Holds : Fact → Type 0) where
  -- One of some facts that hold holds.
  pub held_among : (facts : List Fact) (one : Fact) → AllHold Holds facts → Contains facts one → Holds one
  held_among [] one hold among = absurd (omega (arith, among.1))
  held_among (first ∷ others) one hold among =
      ⊎_elim (λ same. subst Holds same hold.0) (λ later. held_among others one hold.1 later)
      (Contains-head_or_tail first others one among)

  -- Two lists of facts hold together.
  pub held_together : (facts others : List Fact) → AllHold Holds facts → AllHold Holds others
      → AllHold Holds (facts ++ others)
  held_together [] others hold more = more
  held_together (first ∷ facts) others hold more = (hold.0, held_together facts others hold.1 more)

  pub held_first : (facts others : List Fact) → AllHold Holds (facts ++ others) → AllHold Holds facts
  held_first [] others hold = tt
  held_first (first ∷ facts) others hold = (hold.0, held_first facts others hold.1)

  pub held_second : (facts others : List Fact) → AllHold Holds (facts ++ others) → AllHold Holds others
  held_second [] others hold = hold
  held_second (first ∷ facts) others hold = held_second facts others hold.1

-- A fact that stands between others is among all of them.
pub among_split : {Fact : Type 0} (before after : List Fact) (one : Fact) → Contains (before ++ one ∷ after) one
among_split before after one =
    Contains-append_right before (one ∷ after) one (Contains-append_left (one ∷ []) after one (Contains-push [] one))

-- No fact is among none, and the only one of a list is that.
pub among_none : {Fact : Type 0} (one : Fact) → Contains [] one → ⊥
among_none one among = omega (arith, among.1)

pub only_one : {Fact : Type 0} (first one : Fact) → Contains (first ∷ []) one → first ≡ one
only_one first one among =
    ⊎_elim (λ same. same) (λ later. absurd (among_none one later)) (Contains-head_or_tail first [] one among)
