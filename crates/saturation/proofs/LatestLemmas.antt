-- The last element that passes a test.
--
--   `latest_is`                            `latest` gives the last element that has a property
--   `latest_push`                          the last of a list with one more element
--   `latest_with_key`, `latest_of_all`     what is found is the latest fact with a key
--   `latest_of_slot`                       the latest fact with the key of a slot is the latest of that slot
use Rattle.std.proofs.Common.{◌≡◌, ◌<◌, ℕ, zero, suc, Bool, true, false, cond, List, [], ◌∷◌, ◌++◌, length, take, Option, Some, None, slice_get, refl, sym, ap, subst, ◌∙◌, arith, true≢false, inl, inr}
use Rattle.std.proofs.lemmas.List.{take_all}
use Rattle.std.proofs.lemmas.Option.{none-some, same_Some}
use Rattle.contract_terms.specs.declared.fact.Atom.TheVariants.{Object, Future}
use Rattle.contract_terms.specs.declared.fact.Fact.{Fact}
use Rattle.contract_terms.specs.declared.fact.Fact.TheVariants as fact
use Rattle.name_bounding.specs.declared.kind.Kind.{Kind}
use Rattle.name_bounding.specs.declared.kind.Kind.TheVariants as kind
use Rattle.saturation.proofs.KeyLemmas.{has_key_sound, has_key_complete}
use Rattle.saturation.specs.Keys.{IsOf, IsOfSlot, IsLatest, key_of}
use Rattle.saturation.specs.Links.{has_key, or_first, latest}
use Rattle.saturation.specs.declared.key.Key.{Key}
use Rattle.saturation.specs.declared.key.Key.TheVariants as key

-- `latest` gives the last of the first elements that has a property, if the test tells which have it
pub latest_is : {A : Type 0} (test : A → Bool) (Has : A → Type 0) → ((one : A) → test one ≡ true → Has one)
    → ((one : A) → Has one → test one ≡ true) → (list : List A) (bound : ℕ)
    → IsLatest Has list bound (latest test (take bound list))
latest_is test Has sound complete list zero = λ index one below there has. absurd (omega (arith, below))
latest_is test Has sound complete [] (suc bound) = λ index one below there has. absurd (none-some one there)
latest_is {A} test Has sound complete (first ∷ others) (suc bound) =
    go (latest test (take bound others)) (test first) refl (latest_is test Has sound complete others bound)
  where
    go : (later : Option ℕ) (passed : Bool) → test first ≡ passed → IsLatest Has others bound later
        → IsLatest Has (first ∷ others) (suc bound) (or_first later passed)
    go (Some latest) passed is last = (omega (arith, last.0), last.1, after)
      where
        after : (index : ℕ) (one : A) → suc latest < index → index < suc bound
            → slice_get (first ∷ others) index ≡ Some one → Has one → ⊥
        after zero one later below there has = omega (arith, later)
        after (suc index) one later below there has =
            last.2 index one (omega (arith, later)) (omega (arith, below)) there has
    go None true is none = (omega arith, (first, refl, sound first is), after)
      where
        after : (index : ℕ) (one : A) → 0 < index → index < suc bound
            → slice_get (first ∷ others) index ≡ Some one → Has one → ⊥
        after zero one later below there has = omega (arith, later)
        after (suc index) one later below there has = none index one (omega (arith, below)) there has
    go None false is none = before
      where
        before : (index : ℕ) (one : A) → index < suc bound → slice_get (first ∷ others) index ≡ Some one → Has one → ⊥
        before zero one below there has =
            true≢false (sym (complete one has) ∙ (ap test (sym (same_Some first one there)) ∙ is))
        before (suc index) one below there has = none index one (omega (arith, below)) there has

-- the last of a list with one more element is that one, if it passes the test
pub latest_push : {A : Type 0} (test : A → Bool) (list : List A) (last : A)
    → latest test (list ++ last ∷ []) ≡ cond (test last) (Some (length list)) (latest test list)
latest_push test [] last = go (test last)
  where
    go : (passed : Bool) → or_first None passed ≡ cond passed (Some 0) None
    go true = refl
    go false = refl
latest_push test (first ∷ others) last =
    ap (λ later. or_first later (test first)) (latest_push test others last) ∙ go (test last)
  where
    go : (passed : Bool) → or_first (cond passed (Some (length others)) (latest test others)) (test first)
        ≡ cond passed (Some (length (first ∷ others))) (or_first (latest test others) (test first))
    go true = refl
    go false = refl

-- what is found among the first facts is the latest of them with the key
pub latest_with_key : (facts : List Fact) (asked : Key) (bound : ℕ) (found : Option ℕ)
    → found ≡ latest (has_key asked) (take bound facts) → IsLatest (IsOf asked) facts bound found
latest_with_key facts asked bound found is =
    subst (IsLatest (IsOf asked) facts bound) (sym is)
    (latest_is (has_key asked) (IsOf asked) (has_key_sound asked) (has_key_complete asked) facts bound)

-- what is found among all facts is the latest of all
pub latest_of_all : (facts : List Fact) (asked : Key) (found : Option ℕ) → found ≡ latest (has_key asked) facts
    → IsLatest (IsOf asked) facts (length facts) found
latest_of_all facts asked found is =
    latest_with_key facts asked (length facts) found
    (is ∙ ap (latest (has_key asked)) (sym (take_all (length facts) facts (omega arith))))

-- the last element with a property has another one, if each has the one where it has the other
latest_as : {A : Type 0} (Has Other : A → Type 0) → ((one : A) → Has one → Other one) → ((one : A) → Other one
    → Has one)
    → (list : List A) (bound : ℕ) (found : Option ℕ) → IsLatest Has list bound found → IsLatest Other list bound found
latest_as Has Other to from list bound None none = λ index one below there is. none index one below there (from one is)
latest_as Has Other to from list bound (Some latest) last = (
  last.0,
  (last.1.0, last.1.1, to last.1.0 last.1.2),
  (λ index one later below there is. last.2 index one later below there (from one is)),
)

slot_in_key : Key → Option (Kind × ℕ)
slot_in_key (key.Slot holder slot) = Some (holder, slot)
slot_in_key _ = None

-- a fact with the key of a slot says that the slot holds something
slot_of_key : (holder : Kind) (slot : ℕ) (one : Fact) → IsOf (key.Slot holder slot) one → IsOfSlot holder slot one
unfolding slot_in_key
slot_of_key holder slot (fact.Live kind.Main) (inl own) = absurd (none-some _ (ap slot_in_key own))
slot_of_key holder slot (fact.Live (kind.Method sign method)) (inl own) = absurd (none-some _ (ap slot_in_key own))
slot_of_key holder slot (fact.Holds by at atom) (inl own) =
    (atom, ap (λ it. fact.Holds it.0 it.1 atom) (same_Some (by, at) (holder, slot) (ap slot_in_key own)))
slot_of_key holder slot (fact.Field sign field atom) (inl own) = absurd (none-some _ (ap slot_in_key own))
slot_of_key holder slot (fact.Gives giver atom) (inl own) = absurd (none-some _ (ap slot_in_key own))
slot_of_key holder slot (fact.Live lives) (inr future) = absurd (none-some _ future)
slot_of_key holder slot (fact.Holds by at (Object sign)) (inr future) = absurd (none-some _ future)
slot_of_key holder slot (fact.Holds by at (Future call task)) (inr future) =
    absurd (none-some _ (ap slot_in_key (same_Some (key.Future task) (key.Slot holder slot) future)))
slot_of_key holder slot (fact.Field sign field atom) (inr future) = absurd (none-some _ future)
slot_of_key holder slot (fact.Gives giver atom) (inr future) = absurd (none-some _ future)

-- The latest fact with the key of a slot is the latest of that slot.
pub latest_of_slot : (holder : Kind) (slot : ℕ) (facts : List Fact) (bound : ℕ) (found : Option ℕ)
    → IsLatest (IsOf (key.Slot holder slot)) facts bound found → IsLatest (IsOfSlot holder slot) facts bound found
latest_of_slot holder slot facts bound found last =
    latest_as (IsOf (key.Slot holder slot)) (IsOfSlot holder slot) (slot_of_key holder slot)
    (λ one is. inl (ap key_of is.1)) facts bound found last
