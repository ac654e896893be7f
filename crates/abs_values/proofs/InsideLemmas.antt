-- References inside values of a list, which are given as the parts with these values.
--
--   `inside-at`                what is inside a value of a list is inside the list
--   `IsAtIndex`, `inside-is_at`    what is inside a list is inside the value at some index
--   `inside-append`            what is inside two lists together is inside one of them
--   `HoldsNone`                a value that holds no reference
use Rattle.std.proofs.Common.{◌≡◌, ℕ, zero, suc, List, [], ◌∷◌, ◌++◌, Some, ◌⊎◌, inl, inr, ⊎_elim, refl, sym, subst, slice_get}
use Rattle.std.proofs.lemmas.Option.{none-some, same_Some}
use Rattle.abs_values.specs.References.{Reference, IsIn, IsInAny}
use Rattle.abs_values.specs.ValueTrees.{ValueTree, parts_of_list}

-- what is inside the value at an index of a list is inside the list
pub inside-at : (values : List ValueTree) (index : ℕ) (value : ValueTree) (reference : Reference)
    → slice_get values index ≡ Some value → IsIn reference value → IsInAny reference (parts_of_list values)
unfolding IsInAny
inside-at [] index value reference is inside = absurd (none-some value is)
inside-at (first ∷ others) zero value reference is inside =
    inl (subst (IsIn reference) (sym (same_Some first value is)) inside)
inside-at (first ∷ others) (suc index) value reference is inside =
    inr (inside-at others index value reference is inside)

-- the reference is inside the value at some index
pub record IsAtIndex (values : List ValueTree) (reference : Reference) : Type 0 where
  pub index : ℕ
  pub value : ValueTree
  pub there : slice_get values index ≡ Some value
  pub inside : IsIn reference value

-- it is in a list with one more value in front too
at_next : (first : ValueTree) (others : List ValueTree) (reference : Reference) → IsAtIndex others reference
    → IsAtIndex (first ∷ others) reference
at_next first others reference at =
    record { index = suc at.index; value = at.value; there = at.there; inside = at.inside }

-- what is inside a list is inside the value at some index
pub inside-is_at : (values : List ValueTree) (reference : Reference) → IsInAny reference (parts_of_list values)
    → IsAtIndex values reference
unfolding IsInAny
inside-is_at [] reference inside = absurd inside
inside-is_at (first ∷ others) reference inside =
    ⊎_elim (λ own. record { index = 0; value = first; there = refl; inside = own })
    (λ later. at_next first others reference (inside-is_at others reference later)) inside

-- what is inside two lists together is inside one of them
pub inside-append : (list others : List ValueTree) (reference : Reference)
    → IsInAny reference (parts_of_list (list ++ others))
    → IsInAny reference (parts_of_list list) ⊎ IsInAny reference (parts_of_list others)
unfolding IsInAny
inside-append [] others reference inside = inr inside
inside-append (first ∷ list) others reference inside =
    ⊎_elim (λ own. inl (inl own)) (λ later. ⊎_elim (λ in_list. inl (inr in_list)) inr
    (inside-append list others reference later)) inside

-- no reference is inside the value
abbrev pub HoldsNone : ValueTree → Type 0
HoldsNone value = (reference : Reference) → IsIn reference value → ⊥
