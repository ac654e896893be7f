-- The first item of a list that passes a test.
use Rattle.std.proofs.Common.{Bool, List, ℕ, position, ◌≡◌, Some, ◌<◌, length, arith, find, slice_get, None, false, refl, ◌∷◌, ◌||◌, cond, true, [], sym, ◌∙◌, subst, ◌⊎◌, inl, inr}
use Rattle.std.proofs.lemmas.Grind.{common_steps}
use Rattle.std.proofs.lemmas.List.Folds.{find_at}
use Rattle.std.proofs.lemmas.Option.{slice_get_past}
use Rattle.std.specs.List.{list_any, list_all}
use Rattle.std.proofs.lemmas.Bool.{cases_Bool, cond-true, cond-false, and_parts}

-- the first index that passes is an index of the list
pub position-within : {X : Type 0} (p : X → Bool) (xs : List X) (index : ℕ) → position p xs ≡ Some index
    → index < length xs
position-within p xs index at = grind (arith, common_steps)

-- the first element that passes is at the first index that passes
pub find-at_position : {X : Type 0} (p : X → Bool) (xs : List X) (index : ℕ) → position p xs ≡ Some index
    → find p xs ≡ slice_get xs index
find-at_position p xs index at = grind (arith, common_steps, find_at p xs)

-- where no index passes, no element does
pub find-no_position : {X : Type 0} (p : X → Bool) (xs : List X) → position p xs ≡ None → find p xs ≡ None
find-no_position p xs none = grind (arith, common_steps, find_at p xs, slice_get_past xs)

-- `find` finds nothing where no element passes the test
pub find-none : {A : Type 0} (test : A → Bool) (xs : List A) → list_any test xs ≡ false → find test xs ≡ None
find-none test [] none = refl
find-none test (x ∷ xs) none = go (test x) none (find-none test xs)
  where
    go : (here : Bool) → (here || list_any test xs) ≡ false → (list_any test xs ≡ false → find test xs ≡ None)
        → cond here (Some x) (find test xs) ≡ None
    go true none others = absurd cc
    go false none others = others none

-- an element that `find` finds passes the test
pub find-passes : {X : Type 0} (test : X → Bool) (list : List X) (one : X) → find test list ≡ Some one → test one ≡ true
find-passes test [] one e = cc
find-passes test (x ∷ others) one e = at (cases_Bool (test x)) (find-passes test others one)
  where
    at : (test x ≡ true) ⊎ (test x ≡ false) → (find test others ≡ Some one → test one ≡ true) → test one ≡ true
    at (inl is) after =
        let here : Some x ≡ Some one = sym (cond-true (test x) (Some x) (find test others) is) ∙ e in
        let same : x ≡ one = cc in
        subst (λ y. test y ≡ true) same is
    at (inr is_not) after = after (sym (cond-false (test x) (Some x) (find test others) is_not) ∙ e)

-- An element found in a list passes each test that all elements pass.
pub find-list_all : {X : Type 0} (test passes : X → Bool) (list : List X) (one : X) → list_all passes list ≡ true
    → find test list ≡ Some one → passes one ≡ true
find-list_all test passes [] one all e = cc
find-list_all test passes (x ∷ others) one all e =
    at (cases_Bool (test x)) (and_parts (passes x) (list_all passes others) all) (find-list_all test passes others one)
  where
    at : (test x ≡ true) ⊎ (test x ≡ false) → (passes x ≡ true) × (list_all passes others ≡ true)
        → (list_all passes others ≡ true → find test others ≡ Some one → passes one ≡ true) → passes one ≡ true
    at (inl is) each after =
        let here : Some x ≡ Some one = sym (cond-true (test x) (Some x) (find test others) is) ∙ e in
        let same : x ≡ one = cc in
        subst (λ y. passes y ≡ true) same each.0
    at (inr is_not) each after = after each.1 (sym (cond-false (test x) (Some x) (find test others) is_not) ∙ e)
