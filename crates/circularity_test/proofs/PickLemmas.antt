-- Pairs by their indices in a list.
--
--   `PicksEach`                these are the pairs at some indices, one by one
--   `picks_each`               the same of lists as wholes
--   `picks_among`              they are pairs of the list
--   `picks_long`               there are as many of them
--   `rises_at`                 in a rising list a lower index has what comes earlier
use Rattle.std.proofs.Common.{◌≡◌, ◌∙◌, ⊎_elim, ℕ, zero, suc, ◌<◌, List, [], ◌∷◌, length, map, Contains, Some, slice_get, refl, ap, subst, arith}
use Rattle.std.specs.List.Sorted.{IsStrictlySortedBy}
use Rattle.std.specs.Prelude.{⊤}
use Rattle.std.specs.declared.cmp.Ordering.{Ordering}
use Rattle.std.specs.declared.cmp.Ordering.TheVariants.{Less}
use Rattle.std.proofs.lemmas.List.Elements.{All-from_recursion}
use Rattle.std.proofs.lemmas.Option.{none-some, same_Some, slice_get_within, get_or_from_slice_get, slice_get-get_or}
use Rattle.list_facts.proofs.AllLemmas.{All-slice_get, Contains-head_or_tail}

-- these are the elements at some indices
abbrev pub PicksEach : {A : Type 0} → List A → List ℕ → List A → Type 0
PicksEach list [] [] = ⊤
PicksEach list [] (one ∷ others) = ⊥
PicksEach list (index ∷ indices) [] = ⊥
PicksEach list (index ∷ indices) (one ∷ others) = (slice_get list index ≡ Some one) × PicksEach list indices others

module _ {A : Type 0} where
  pub picks_each : (list : List A) (indices : List ℕ) (picked : List A) → PicksEach list indices picked
      → map (slice_get list) indices ≡ map Some picked
  picks_each list [] [] picks = refl
  picks_each list [] (one ∷ others) picks = absurd picks
  picks_each list (index ∷ indices) [] picks = absurd picks
  picks_each list (index ∷ indices) (one ∷ others) picks =
      ap (λ first. first ∷ map (slice_get list) indices) picks.0
      ∙ ap (λ those. Some one ∷ those) (picks_each list indices others picks.1)

  pub picks_long : (list : List A) (indices : List ℕ) (picked : List A) → PicksEach list indices picked
      → length picked ≡ length indices
  picks_long list [] [] picks = refl
  picks_long list [] (one ∷ others) picks = absurd picks
  picks_long list (index ∷ indices) [] picks = absurd picks
  picks_long list (index ∷ indices) (one ∷ others) picks = ap suc (picks_long list indices others picks.1)

  -- what is at an index is in the list
  pub contains_at : (list : List A) (index : ℕ) (one : A) → slice_get list index ≡ Some one → Contains list one
  contains_at list index one is =
      (index, slice_get_within list index one is, get_or_from_slice_get list index one one is)

  -- what is in the list is at an index
  pub at_contains : (list : List A) (one : A) → (there : Contains list one) → slice_get list there.0 ≡ Some one
  at_contains list one there = slice_get-get_or list there.0 one there.1 ∙ ap Some there.2

  pub picks_among : (list : List A) (indices : List ℕ) (picked : List A) → PicksEach list indices picked → (one : A)
      → Contains picked one → Contains list one
  picks_among list [] [] picks one inside = absurd (omega (arith, inside.1))
  picks_among list [] (first ∷ others) picks one inside = absurd picks
  picks_among list (index ∷ indices) [] picks one inside = absurd picks
  picks_among list (index ∷ indices) (first ∷ others) picks one inside = ⊎_elim
      (λ same. subst (Contains list) same (contains_at list index first picks.0))
      (λ later. picks_among list indices others picks.1 one later)
      (Contains-head_or_tail first others one inside)

  -- in a rising list a lower index has what comes earlier
  pub rises_at : (R : A → A → Ordering) (list : List A) → IsStrictlySortedBy R list → (one other : ℕ) (x y : A)
      → one < other → slice_get list one ≡ Some x → slice_get list other ≡ Some y → R x y ≡ Less
  unfolding IsStrictlySortedBy
  rises_at R [] rises one other x y below first second = absurd (none-some x first)
  rises_at R (z ∷ zs) rises one zero x y below first second = absurd (omega (arith, below))
  rises_at R (z ∷ zs) rises zero (suc other) x y below first second =
      subst (λ it. R it y ≡ Less) (same_Some z x first)
      (All-slice_get (λ it. R z it ≡ Less) zs other y (All-from_recursion (λ it. R z it ≡ Less) zs rises.0) second)
  rises_at R (z ∷ zs) rises (suc one) (suc other) x y below first second =
      rises_at R zs rises.1 one other x y (omega (arith, below)) first second
