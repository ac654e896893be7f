-- The next pair of a way: the least one of those that leave one less.
--
--   `IsNext`                       the pair with an index is a number, and leads to a node with a distance
--   `nearest_first`                the least distance of some nodes
--   `distance_first`, `index_first`        the distance of one node, and the index of one pair
--   `next_first`, `step_first`     the least pair at a node, and at some nodes
--   `near_more`, `far_more`, `late_more`       one turn of a loop over the pairs at a node
use Rattle.std.proofs.Common.{◌≡◌, ◌⊎◌, ◌+◌, ◌<◌, ℕ, true, false, List, Contains, Option, Some, refl, sym, subst, get_or, length, take, le_of_eq}
use Rattle.circularity_test.specs.Network.{led_to, waiting_at}
use Rattle.circularity_test.specs.Routes.{IsFirst, IsNear, StepsAt, StepsTo, is_sooner}
use Rattle.circularity_test.specs.declared.network.Network.{Network}
use Rattle.circularity_test.proofs.NearLemmas.{OneOf, first_as, first_itself, first_late, first_none, first_soon, taken_more}

-- an index is a number, and its pair leads to a node with a distance
abbrev pub IsNext : Network → (ℕ → Option ℕ) → ℕ → ℕ → ℕ → Type 0
IsNext network far left index number = (index ≡ number) × IsNear far (led_to network index) left

-- the distance that is found for a node is its least
pub distance_first : (far : ℕ → Option ℕ) (node : ℕ) (found : Option ℕ) → found ≡ far node
    → IsFirst (λ distance. far node ≡ Some distance) found
distance_first far node found is =
    subst (IsFirst (λ distance. far node ≡ Some distance)) (sym is) (first_itself (far node))

-- the least distance of some nodes
pub nearest_first : (far : ℕ → Option ℕ) (nodes : List ℕ) (found : Option ℕ)
    → IsFirst (OneOf (λ node distance. far node ≡ Some distance) nodes) found → IsFirst (IsNear far nodes) found
nearest_first far nodes found first =
    first_as found
    (λ distance one. record { node = one.item; inside = one.inside; is = one.is })
    (λ distance near. record { item = near.node; inside = near.inside; is = near.is })
    first

-- the index of a pair that leads to a node with a distance is the least
pub index_first : (network : Network) (far : ℕ → Option ℕ) (left index : ℕ) → IsNear far (led_to network index) left
    → IsFirst (IsNext network far left index) (Some index)
index_first network far left index near = ((refl, near), λ other is. le_of_eq is.0)

-- the least pair at a node
pub next_first : (network : Network) (far : ℕ → Option ℕ) (left number : ℕ) (found : Option ℕ)
    → IsFirst (OneOf (IsNext network far left) (waiting_at network number)) found
    → IsFirst (StepsAt network far left number) found
next_first network far left number found first =
    first_as found
    (λ index one. record {
      waits = subst (Contains (waiting_at network number)) one.is.0 one.inside;
      near = subst (λ it. IsNear far (led_to network it) left) one.is.0 one.is.1;
    })
    (λ index steps. record { item = index; inside = steps.waits; is = (refl, steps.near) })
    first

-- the least pair at some nodes
pub step_first : (network : Network) (far : ℕ → Option ℕ) (left : ℕ) (numbers : List ℕ) (found : Option ℕ)
    → IsFirst (OneOf (StepsAt network far left) numbers) found
    → IsFirst (StepsTo network far left numbers) found
step_first network far left numbers found first =
    first_as found
    (λ index one. record { number = one.item; inside = one.inside; steps = one.is })
    (λ index steps. record { item = steps.number; inside = steps.inside; is = steps.steps })
    first

module _ (network : Network) (far : ℕ → Option ℕ) (left : ℕ) (items : List ℕ) (index : ℕ)
    (within : index < length items) (found now : Option ℕ)
    (first : IsFirst (OneOf (IsNext network far left) (take index items)) found) where
  abbrev item : ℕ
  item = get_or items index 0

  -- one pair more in other words
  taken : now ≡ found
      → IsFirst (λ number. OneOf (IsNext network far left) (take index items) number
      ⊎ IsNext network far left item number) found
      → IsFirst (OneOf (IsNext network far left) (take (index + 1) items)) now
  taken same is =
      subst (IsFirst (OneOf (IsNext network far left) (take (index + 1) items))) (sym same)
      (taken_more (IsNext network far left) items index 0 within found is)

  -- one pair more, which is sooner and leads to a node with the distance
  pub near_more : now ≡ Some (get_or items index 0) → is_sooner (get_or items index 0) found ≡ true
      → IsNear far (led_to network (get_or items index 0)) left
      → IsFirst (OneOf (IsNext network far left) (take (index + 1) items)) now
  near_more same soon near =
      subst (IsFirst (OneOf (IsNext network far left) (take (index + 1) items))) (sym same)
      (taken_more (IsNext network far left) items index 0 within (Some item)
      (first_soon (OneOf (IsNext network far left) (take index items)) (IsNext network far left item) found item first
      (index_first network far left item near) soon))

  -- one pair more, which leads to no such node
  pub far_more : now ≡ found → (IsNear far (led_to network (get_or items index 0)) left → ⊥)
      → IsFirst (OneOf (IsNext network far left) (take (index + 1) items)) now
  far_more same never =
      taken same (first_none (OneOf (IsNext network far left) (take index items)) (IsNext network far left item) found
      first (λ number next. never next.1))

  -- one pair more, which is not sooner
  pub late_more : now ≡ found → is_sooner (get_or items index 0) found ≡ false
      → IsFirst (OneOf (IsNext network far left) (take (index + 1) items)) now
  late_more same late =
      taken same (first_late (OneOf (IsNext network far left) (take index items)) (IsNext network far left item) found
      item first (λ number next. next.0) late)
