-- Lists with a new number directly after another one.
--
--   `IsAmong`                          a number is in a list
--   `stays_among`, `new_among`         what was there is there, and so is the new one
--   `among_before`                     nothing else is there
--   `before_stays`                     what comes before something still does
--   `before_new`, `new_before`         the new number is between the other one and what comes after that
--   `put_last`                         after a number that is not there the new one comes last
--   `once_after`                       each number is there once still
use Rattle.std.proofs.Common.{◌≡◌, ◌⊎◌, ◌<◌, ℕ, zero, suc, ◌+◌, nat_eq, inl, inr, ⊎_elim, Bool, true, false, List, [], ◌∷◌, ◌++◌, slice_get, Some, refl, sym, ap, ◌∙◌, subst, arith, eqb-true, eq-eqb, true≢false}
use Rattle.std.specs.Prelude.{⊤, if◌then◌else◌}
use Rattle.std.proofs.lemmas.Bool.Decides.{nat_tests}
use Rattle.std.proofs.lemmas.Option.{none-some, same_Some}
use Rattle.abs_sound.specs.Knowledge.{IsBefore, IsEachOnce, put_after}

-- what comes before something in the rest of a list does so in the list
before_in_rest : (first one other : ℕ) (others : List ℕ) → IsBefore others one other
    → IsBefore (first ∷ others) one other
before_in_rest first one other others is = record {
  first = suc is.first;
  second = suc is.second;
  smaller = omega (arith, is.smaller);
  one_there = is.one_there;
  other_there = is.other_there;
}

-- the first number of a list comes before each other one
first_before : (first other index : ℕ) (others : List ℕ) → slice_get others index ≡ Some other
    → IsBefore (first ∷ others) first other
first_before first other index others there = record {
  first = 0;
  second = suc index;
  smaller = omega arith;
  one_there = refl;
  other_there = there;
}

-- two numbers at indices, one smaller than the other
between : (order : List ℕ) (one other low high : ℕ) → low < high → slice_get order low ≡ Some one
    → slice_get order high ≡ Some other → IsBefore order one other
between order one other low high smaller there other_there =
    record { first = low; second = high; smaller = smaller; one_there = there; other_there = other_there }

-- the number is in the list
abbrev pub IsAmong : List ℕ → ℕ → Type 0
IsAmong order number = (index : ℕ) × (slice_get order index ≡ Some number)

-- the list from a number on, by whether that is the one after which the new one comes
abbrev put_by : Bool → ℕ → List ℕ → ℕ → ℕ → List ℕ
put_by same first others number new =
    if same then first ∷ new ∷ others else first ∷ put_after others number new

-- a number of a rest is one of the list
among_rest : (first number : ℕ) (others : List ℕ) → IsAmong others number → IsAmong (first ∷ others) number
among_rest first number others is = (suc is.0, is.1)

-- what is in a list is there still
among_by : (same : Bool) (first : ℕ) (others : List ℕ) (number new item index : ℕ)
    → (IsAmong others item → IsAmong (put_after others number new) item)
    → slice_get (first ∷ others) index ≡ Some item → IsAmong (put_by same first others number new) item
among_by true first others number new item zero rest there = (0, there)
among_by true first others number new item (suc index) rest there = (suc (suc index), there)
among_by false first others number new item zero rest there = (0, there)
among_by false first others number new item (suc index) rest there =
    among_rest first item (put_after others number new) (rest (index, there))

pub stays_among : (order : List ℕ) (number new item : ℕ) → IsAmong order item
    → IsAmong (put_after order number new) item
stays_among [] number new item is = absurd (none-some item is.1)
stays_among (first ∷ others) number new item is =
    among_by (nat_eq first number) first others number new item is.0 (stays_among others number new item) is.1

-- the new number is there
new_by : (same : Bool) (first : ℕ) (others : List ℕ) (number new : ℕ) → IsAmong (put_after others number new) new
    → IsAmong (put_by same first others number new) new
new_by true first others number new rest = (1, refl)
new_by false first others number new rest = among_rest first new (put_after others number new) rest

pub new_among : (order : List ℕ) (number new : ℕ) → IsAmong (put_after order number new) new
new_among [] number new = (0, refl)
new_among (first ∷ others) number new =
    new_by (nat_eq first number) first others number new (new_among others number new)

-- what is there is new, or was there before
before_by : (same : Bool) (first : ℕ) (others : List ℕ) (number new item index : ℕ)
    → (IsAmong (put_after others number new) item → (item ≡ new) ⊎ IsAmong others item)
    → slice_get (put_by same first others number new) index ≡ Some item → (item ≡ new) ⊎ IsAmong (first ∷ others) item
before_by true first others number new item zero rest there = inr (0, there)
before_by true first others number new item (suc zero) rest there = inl (sym (same_Some new item there))
before_by true first others number new item (suc (suc index)) rest there = inr (suc index, there)
before_by false first others number new item zero rest there = inr (0, there)
before_by false first others number new item (suc index) rest there = ⊎_elim (λ is. inl is)
    (λ old. inr (among_rest first item others old)) (rest (index, there))

-- the one number of a list
only : (new item index : ℕ) → slice_get (new ∷ []) index ≡ Some item → item ≡ new
only new item zero there = sym (same_Some new item there)
only new item (suc index) there = absurd (none-some item there)

pub among_before : (order : List ℕ) (number new item : ℕ) → IsAmong (put_after order number new) item
    → (item ≡ new) ⊎ IsAmong order item
among_before [] number new item is = inl (only new item is.0 is.1)
among_before (first ∷ others) number new item is =
    before_by (nat_eq first number) first others number new item is.0 (among_before others number new item) is.1

-- what comes before something still does
stays_by : (same : Bool) (first : ℕ) (others : List ℕ) (number new one other low high : ℕ)
    → (IsBefore others one other → IsBefore (put_after others number new) one other) → low < high
    → slice_get (first ∷ others) low ≡ Some one → slice_get (first ∷ others) high ≡ Some other
    → IsBefore (put_by same first others number new) one other
stays_by same first others number new one other low zero rest smaller there other_there =
    absurd (omega (arith, smaller))
stays_by true first others number new one other zero (suc high) rest smaller there other_there = record {
  first = 0;
  second = suc (suc high);
  smaller = omega arith;
  one_there = there;
  other_there = other_there;
}
stays_by true first others number new one other (suc low) (suc high) rest smaller there other_there = record {
  first = suc (suc low);
  second = suc (suc high);
  smaller = omega (arith, smaller);
  one_there = there;
  other_there = other_there;
}
stays_by false first others number new one other zero (suc high) rest smaller there other_there =
    let place = stays_among others number new other (high, other_there) in
    subst (λ (item : ℕ). IsBefore (first ∷ put_after others number new) item other) (same_Some first one there)
    (first_before first other place.0 (put_after others number new) place.1)
stays_by false first others number new one other (suc low) (suc high) rest smaller there other_there =
    before_in_rest first one other (put_after others number new)
    (rest (between others one other low high (omega (arith, smaller)) there other_there))

pub before_stays : (order : List ℕ) (number new one other : ℕ) → IsBefore order one other
    → IsBefore (put_after order number new) one other
before_stays [] number new one other is = absurd (none-some one is.one_there)
before_stays (first ∷ others) number new one other is =
    stays_by (nat_eq first number) first others number new one other is.first is.second
    (before_stays others number new one other) is.smaller is.one_there is.other_there

-- the number after which the new one comes is before it
before_new_by : (same : Bool) (first : ℕ) (others : List ℕ) (number new index : ℕ)
    → (IsAmong others number → IsBefore (put_after others number new) number new) → nat_eq first number ≡ same
    → slice_get (first ∷ others) index ≡ Some number → IsBefore (put_by same first others number new) number new
before_new_by true first others number new index rest is there = record {
  first = 0;
  second = 1;
  smaller = omega arith;
  one_there = ap Some (eqb-true first number is);
  other_there = refl;
}
before_new_by false first others number new zero rest is there =
    absurd (true≢false (sym (eq-eqb first number (same_Some first number there)) ∙ is))
before_new_by false first others number new (suc index) rest is there =
    before_in_rest first number new (put_after others number new) (rest (index, there))

pub before_new : (order : List ℕ) (number new : ℕ) → IsAmong order number
    → IsBefore (put_after order number new) number new
before_new [] number new is = absurd (none-some number is.1)
before_new (first ∷ others) number new is =
    before_new_by (nat_eq first number) first others number new is.0 (before_new others number new) refl is.1

-- what comes after that number comes after the new one
new_before_by : (same : Bool) (first : ℕ) (others : List ℕ) (number new other low high : ℕ)
    → (IsBefore others number other → IsBefore (put_after others number new) new other)
    → nat_eq first number ≡ same → low < high → slice_get (first ∷ others) low ≡ Some number
    → slice_get (first ∷ others) high ≡ Some other → IsBefore (put_by same first others number new) new other
new_before_by same first others number new other low zero rest is smaller there other_there =
    absurd (omega (arith, smaller))
new_before_by true first others number new other low (suc high) rest is smaller there other_there = record {
  first = 1;
  second = suc (suc high);
  smaller = omega arith;
  one_there = refl;
  other_there = other_there;
}
new_before_by false first others number new other zero (suc high) rest is smaller there other_there =
    absurd (true≢false (sym (eq-eqb first number (same_Some first number there)) ∙ is))
new_before_by false first others number new other (suc low) (suc high) rest is smaller there other_there =
    before_in_rest first new other (put_after others number new)
    (rest (between others number other low high (omega (arith, smaller)) there other_there))

pub new_before : (order : List ℕ) (number new other : ℕ) → IsBefore order number other
    → IsBefore (put_after order number new) new other
new_before [] number new other is = absurd (none-some number is.one_there)
new_before (first ∷ others) number new other is =
    new_before_by (nat_eq first number) first others number new other is.first is.second
    (new_before others number new other) refl is.smaller is.one_there is.other_there

-- after a number that is not there the new one comes last
last_by : (same : Bool) (first : ℕ) (others : List ℕ) (number new : ℕ)
    → ((IsAmong others number → ⊥) → put_after others number new ≡ others ++ new ∷ []) → nat_eq first number ≡ same
    → (IsAmong (first ∷ others) number → ⊥) → put_by same first others number new ≡ first ∷ (others ++ new ∷ [])
last_by true first others number new rest is free = absurd (free (0, ap Some (eqb-true first number is)))
last_by false first others number new rest is free =
    ap (λ (after : List ℕ). first ∷ after) (rest (λ among. free (among_rest first number others among)))

pub put_last : (order : List ℕ) (number new : ℕ) → (IsAmong order number → ⊥)
    → put_after order number new ≡ order ++ new ∷ []
put_last [] number new free = refl
put_last (first ∷ others) number new free =
    last_by (nat_eq first number) first others number new (put_last others number new) refl free

-- No number is in the list twice, in parts: the first one is not among the others.
abbrev NoneTwice : List ℕ → Type 0
NoneTwice [] = ⊤
NoneTwice (first ∷ others) = (IsAmong others first → ⊥) × NoneTwice others

-- so it is where a number is at one index alone
none_twice : (order : List ℕ) → ((first second number : ℕ) → slice_get order first ≡ Some number
    → slice_get order second ≡ Some number → first ≡ second) → NoneTwice order
none_twice [] once = tt
none_twice (first ∷ others) once = (
  λ again. let same : 0 ≡ suc again.0 = once 0 (suc again.0) first refl again.1 in omega (arith, same),
  none_twice others (λ one other number there other_there.
      let same : suc one ≡ suc other = once (suc one) (suc other) number there other_there in omega (arith, same)),
)

-- and the other way round
at_one_index : (order : List ℕ) → NoneTwice order → (first second number : ℕ) → slice_get order first ≡ Some number
    → slice_get order second ≡ Some number → first ≡ second
at_one_index [] none first second number there other_there = absurd (none-some number there)
at_one_index (item ∷ others) none zero zero number there other_there = refl
at_one_index (item ∷ others) none zero (suc second) number there other_there =
    absurd (none.0 (second, other_there ∙ sym there))
at_one_index (item ∷ others) none (suc first) zero number there other_there =
    absurd (none.0 (first, there ∙ sym other_there))
at_one_index (item ∷ others) none (suc first) (suc second) number there other_there =
    ap suc (at_one_index others none.1 first second number there other_there)

-- what comes first in such a list is not there again, also after a new number that is not there
not_again : (first new : ℕ) (others : List ℕ) → (IsAmong others first → ⊥) → (new ≡ first → ⊥)
    → IsAmong (new ∷ others) first → ⊥
not_again first new others free apart (zero, there) = apart (same_Some new first there)
not_again first new others free apart (suc index, there) = free (index, there)

-- a new number leaves no number in the list twice
none_twice_by : (same : Bool) (first : ℕ) (others : List ℕ) (number new : ℕ)
    → NoneTwice (put_after others number new) → NoneTwice (first ∷ others)
    → (IsAmong (first ∷ others) new → ⊥) → NoneTwice (put_by same first others number new)
none_twice_by true first others number new rest none free = (
  not_again first new others none.0 (λ is. free (0, ap Some (sym is))),
  (λ among. free (among_rest first new others among), none.1),
)
none_twice_by false first others number new rest none free = (
  λ among. ⊎_elim (λ is. free (0, ap Some is)) none.0 (among_before others number new first among),
  rest,
)

none_twice_after : (order : List ℕ) (number new : ℕ) → NoneTwice order → (IsAmong order new → ⊥)
    → NoneTwice (put_after order number new)
none_twice_after [] number new none free = (λ among. absurd (none-some new among.1), tt)
none_twice_after (first ∷ others) number new none free =
    none_twice_by (nat_eq first number) first others number new
    (none_twice_after others number new none.1 (λ among. free (among_rest first new others among))) none free

-- the numbers below a count and the count itself are there once, if those below were
pub once_after : (order : List ℕ) (number count : ℕ) → IsEachOnce order count
    → IsEachOnce (put_after order number count) (count + 1)
once_after order number count once =
    let free : IsAmong order count → ⊥ = λ among. omega (arith, once.below among.0 count among.1) in
    record {
      below = λ index item there. ⊎_elim (λ is. omega (arith, is))
          (λ among. omega (arith, once.below among.0 item among.1))
          (among_before order number count item (index, there));
      there = λ item below. is_there item below (nat_eq item count) refl;
      once = at_one_index (put_after order number count)
          (none_twice_after order number count (none_twice order once.once) free);
    }
  where
    is_there : (item : ℕ) → item < count + 1 → (same : Bool) → nat_eq item count ≡ same
        → IsAmong (put_after order number count) item
    is_there item below true is =
        subst (IsAmong (put_after order number count)) (sym (eqb-true item count is)) (new_among order number count)
    is_there item below false is =
        stays_among order number count item (once.there item (grind (arith, nat_tests, below, is)))

-- a number that comes last in a list with it is in no list without it
pub new_is_free : (order : List ℕ) (count : ℕ) → IsEachOnce order count → IsAmong order count → ⊥
new_is_free order count once among = omega (arith, once.below among.0 count among.1)
