-- The least number of which something holds, found by a loop over a list.
--
--   `OneOf`                                    something holds of a number by one of some elements
--   `first_as`, `first_of_both`                the least number in other words, and the least one of two
--   `first_none`, `first_late`, `first_soon`   the least one beside one that is not there, not sooner, or sooner
--   `first_itself`                             a number that may be there is the least one that is there
--   `one_none`, `one_more`, `one_all`          a loop over a list: at its start, one turn, at its end
--   `taken_more`                               one turn, in other words
use Rattle.std.proofs.Common.{◌≡◌, ◌⊎◌, inl, inr, ⊎_elim, ℕ, ◌+◌, ◌<◌, ◌≤◌, Bool, true, false, List, [], ◌∷◌, take, length, Contains, refl, sym, subst, arith, ◌∙◌, if◌then◌else◌, nat_lt, get_or, Option, Some, None, le_refl, true≢false}
use Rattle.std.proofs.lemmas.List.{get_or_default, take_more, take_all}
use Rattle.std.proofs.lemmas.List.Elements.{Contains-append_left, Contains-push_cases, Contains-push}
use Rattle.std.proofs.lemmas.Option.{none-some, same_Some}
use Rattle.std.proofs.lemmas.Bool.Decides.{nat_tests}
use Rattle.circularity_test.specs.Routes.{IsFirst, is_sooner, sooner}

-- Something holds of a number by one of some elements.
pub record OneOf {A : Type 0} (Is : A → ℕ → Type 0) (items : List A) (number : ℕ) : Type 0 where
  pub item : A
  pub inside : Contains items item
  pub is : Is item number

-- the least number in other words
pub first_as : {Is Other : ℕ → Type 0} (found : Option ℕ) → ((number : ℕ) → Is number → Other number)
    → ((number : ℕ) → Other number → Is number) → IsFirst Is found → IsFirst Other found
first_as None to from none = λ number is. none number (from number is)
first_as (Some number) to from first = (to number first.0, λ other is. first.1 other (from other is))

-- a number that may be there is the least one that is there
pub first_itself : (found : Option ℕ) → IsFirst (λ number. found ≡ Some number) found
first_itself None = λ number is. none-some number is
first_itself (Some number) = (refl, λ other is. subst (λ it. number ≤ it) (same_Some number other is) (le_refl number))

chosen : {Is Other : ℕ → Type 0} (one other : ℕ) (earlier : Bool) → nat_lt other one ≡ earlier
    → IsFirst Is (Some one) → IsFirst Other (Some other)
    → IsFirst (λ number. Is number ⊎ Other number) (Some (if earlier then other else one))
chosen one other true test first second = (
  inr second.0,
  λ number is. ⊎_elim
      (λ it. let far = first.1 number it in grind (arith, nat_tests))
      (λ it. second.1 number it) is,
)
chosen one other false test first second = (
  inl first.0,
  λ number is. ⊎_elim
      (λ it. first.1 number it)
      (λ it. let far = second.1 number it in grind (arith, nat_tests)) is,
)

-- the least one of two
pub first_of_both : (Is Other : ℕ → Type 0) (one other : Option ℕ) → IsFirst Is one → IsFirst Other other
    → IsFirst (λ number. Is number ⊎ Other number) (sooner one other)
first_of_both Is Other None None none never = λ number is. ⊎_elim (none number) (never number) is
first_of_both Is Other None (Some other) none second =
    (inr second.0, λ number is. ⊎_elim (λ it. absurd (none number it)) (λ it. second.1 number it) is)
first_of_both Is Other (Some one) None first never =
    (inl first.0, λ number is. ⊎_elim (λ it. first.1 number it) (λ it. absurd (never number it)) is)
first_of_both Is Other (Some one) (Some other) first second = chosen one other (nat_lt other one) refl first second

-- the least one stays where nothing else holds
pub first_none : (Is Other : ℕ → Type 0) (found : Option ℕ) → IsFirst Is found → ((number : ℕ) → Other number → ⊥)
    → IsFirst (λ number. Is number ⊎ Other number) found
first_none Is Other found first never =
    first_as found (λ number is. inl is)
    (λ number is. ⊎_elim (λ it. it) (λ other. absurd (never number other)) is) first

-- it stays where the other one is not sooner
pub first_late : (Is Other : ℕ → Type 0) (found : Option ℕ) (one : ℕ) → IsFirst Is found
    → ((number : ℕ) → Other number → one ≡ number) → is_sooner one found ≡ false
    → IsFirst (λ number. Is number ⊎ Other number) found
first_late Is Other None one first same late = absurd (true≢false late)
first_late Is Other (Some number) one first same late = (
  inl first.0,
  λ other is. ⊎_elim
      (λ it. first.1 other it)
      (λ it. let at = same other it in grind (arith, nat_tests)) is,
)

-- the other one is taken where it is sooner
pub first_soon : (Is Other : ℕ → Type 0) (found : Option ℕ) (one : ℕ) → IsFirst Is found → IsFirst Other (Some one)
    → is_sooner one found ≡ true → IsFirst (λ number. Is number ⊎ Other number) (Some one)
first_soon Is Other None one first other soon = first_of_both Is Other None (Some one) first other
first_soon Is Other (Some number) one first other soon =
    subst (λ earlier. IsFirst (λ it. Is it ⊎ Other it) (Some (if earlier then one else number))) soon
    (first_of_both Is Other (Some number) (Some one) first other)

module _ {A : Type 0} (Is : A → ℕ → Type 0) where
  -- no element was seen before the first turn
  pub one_none : (items : List A) → IsFirst (OneOf Is (take 0 items)) None
  one_none items = λ number one. omega (arith, one.inside.1)

  more_to : (items : List A) (index : ℕ) (item : A) → index < length items → item ≡ get_or items index item
      → (number : ℕ) → OneOf Is (take index items) number ⊎ Is item number
      → OneOf Is (take (index + 1) items) number
  more_to items index item within is number there =
      let more = take_more items index item within in
      ⊎_elim
      (λ one. record {
        item = one.item;
        inside = subst (λ part. Contains part one.item) (sym more)
            (Contains-append_left (take index items) (get_or items index item ∷ []) one.item one.inside);
        is = one.is;
      })
      (λ new. record {
        item = item;
        inside = subst (λ it. Contains (take (index + 1) items) it) (sym is)
            (subst (λ part. Contains part (get_or items index item)) (sym more)
            (Contains-push (take index items) (get_or items index item)));
        is = new;
      }) there

  more_from : (items : List A) (index : ℕ) (item : A) → index < length items → item ≡ get_or items index item
      → (number : ℕ) → OneOf Is (take (index + 1) items) number
      → OneOf Is (take index items) number ⊎ Is item number
  more_from items index item within is number one =
      let more = take_more items index item within in
      ⊎_elim
      (λ earlier. inl (record { item = one.item; inside = earlier; is = one.is }))
      (λ same. inr (subst (λ it. Is it number) (sym same ∙ sym is) one.is))
      (Contains-push_cases (take index items) (get_or items index item) one.item
      (subst (λ part. Contains part one.item) more one.inside))

  -- one element more, whose least one is taken in
  pub taken_more : (items : List A) (index : ℕ) (none : A) → index < length items → (found : Option ℕ)
      → IsFirst (λ number. OneOf Is (take index items) number ⊎ Is (get_or items index none) number) found
      → IsFirst (OneOf Is (take (index + 1) items)) found
  taken_more items index none within found taken =
      let is = sym (get_or_default items index (get_or items index none) none within) in
      first_as found (more_to items index (get_or items index none) within is)
      (more_from items index (get_or items index none) within is) taken

  -- one element more
  pub one_more : (items : List A) (index : ℕ) (none : A) → index < length items → (found given : Option ℕ)
      → IsFirst (OneOf Is (take index items)) found → IsFirst (Is (get_or items index none)) given
      → IsFirst (OneOf Is (take (index + 1) items)) (sooner found given)
  one_more items index none within found given so_far step =
      taken_more items index none within (sooner found given)
      (first_of_both (OneOf Is (take index items)) (Is (get_or items index none)) found given so_far step)

  -- all elements were seen
  pub one_all : (items : List A) (index : ℕ) → length items ≤ index → (found : Option ℕ)
      → IsFirst (OneOf Is (take index items)) found → IsFirst (OneOf Is items) found
  one_all items index over found first =
      subst (λ part. IsFirst (OneOf Is part) found) (take_all index items over) first
