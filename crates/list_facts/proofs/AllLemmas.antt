-- What is so of each item of a list, and of the item at an index.
use Rattle.std.proofs.Common.{List, ℕ, All, ◌≡◌, Some, subst, get_or, ◌<◌, length, ◌+◌, eq-or-lt_of_le, arith, sym, ◌⊎◌, inl, inr, IfSome, ◌∷◌, zero, suc, [], reverse, ◌-◌, map, Bool, false, Contains, ⊎_elim, ◌∙◌, ap, ◌≤◌}
use Rattle.std.specs.Prelude.{slice_get}
use Rattle.std.proofs.lemmas.Option.{get_or_from_slice_get, slice_get_within, slice_get-get_or}
use Rattle.std.proofs.lemmas.List.Elements.{All-get_or, All-head, All-tail, Contains-push_cases, Contains-append_cases, All-cons}
use Rattle.std.proofs.lemmas.List.{length-reverse, get_or-reverse, length-map, get_or-map}
use Rattle.std.specs.List.{AllByRecursion, IsDistinct}

-- what is so of all elements is so of one that is found
pub All-slice_get : {A : Type 0} (P : A → Type 0) (items : List A) (index : ℕ) (item : A) → All P items
    → slice_get items index ≡ Some item → P item
All-slice_get P items index item all is =
    subst P (get_or_from_slice_get items index item item is)
    (All-get_or P items index item (slice_get_within items index item is) all)

-- something is so of all entries of a list, if it is of each
pub All-from_slice_get : {A : Type 0} (is : A → Type 0) (list : List A)
    → ((index : ℕ) (entry : A) → slice_get list index ≡ Some entry → is entry) → All is list
All-from_slice_get is list each = λ index other within.
    each index (get_or list index other) (slice_get-get_or list index other within)

-- something is so of one more entry of a list
pub get_or-each_more : {A : Type 0} (is : A → Type 0) (list : List A) (index : ℕ) (none : A) → index < length list
    → ((part : ℕ) (other : A) → part < index → is (get_or list part other)) → is (get_or list index none)
    → (part : ℕ) (other : A) → part < index + 1 → is (get_or list part other)
get_or-each_more is list index none there before now part other within =
    by (eq-or-lt_of_le (omega (arith, within)))
  where
    same : get_or list index none ≡ get_or list index other
    same = sym (get_or_from_slice_get list index _ other (slice_get-get_or list index none there))

    by : (part ≡ index) ⊎ (part < index) → is (get_or list part other)
    by (inl last) = subst (λ (at : ℕ). is (get_or list at other)) (sym last) (subst is same now)
    by (inr earlier) = before part other earlier

-- what is so of all elements is so of the one at an index, if there is one
pub IfSome-slice_get : {A : Type 0} (P : A → Type 0) (items : List A) (index : ℕ) → All P items
    → IfSome (slice_get items index) P
IfSome-slice_get P [] index all = tt
IfSome-slice_get P (first ∷ others) zero all = All-head P first others all
IfSome-slice_get P (first ∷ others) (suc index) all = IfSome-slice_get P others index (All-tail P first others all)

-- what is so of each item of a list is so of each item of the list from its end on
pub All-reverse : {A : Type 0} (P : A → Type 0) (items : List A) → All P items → All P (reverse items)
All-reverse P items all index default below =
    let counts = length-reverse items in
    subst P (sym (get_or-reverse items index default (omega arith)))
    (all (length items - 1 - index) default (omega arith))

-- a fact of the image of each element is a fact of each element of the mapped list
AllByRecursion-map : {A B : Type 0} (f : A → B) (P : B → Type 0) (xs : List A) → AllByRecursion (λ x. P (f x)) xs
    → AllByRecursion P (map f xs)
AllByRecursion-map f P [] all = tt
AllByRecursion-map f P (x ∷ xs) all = (all.0, AllByRecursion-map f P xs all.1)

-- if no two elements have the same image, no two elements of the mapped list are the same
pub IsDistinct-map : {A B : Type 0} (f : A → B) (same : B → B → Bool) (xs : List A)
    → IsDistinct (λ x y. same (f x) (f y)) xs → IsDistinct same (map f xs)
unfolding IsDistinct
IsDistinct-map f same [] distinct = tt
IsDistinct-map f same (x ∷ xs) distinct =
    (AllByRecursion-map f (λ y. same (f x) y ≡ false) xs distinct.0, IsDistinct-map f same xs distinct.1)

-- what is in a list is its first item, or is in the others
pub Contains-head_or_tail : {A : Type 0} (first : A) (others : List A) (one : A) → Contains (first ∷ others) one
    → (first ≡ one) ⊎ Contains others one
Contains-head_or_tail first others one there = ⊎_elim
    (λ head. ⊎_elim (λ none. absurd (omega (arith, none.1))) (λ same. inl same) (Contains-push_cases [] first one head))
    (λ rest. inr rest)
    (Contains-append_cases (first ∷ []) others one there)

-- what is so of all images is so of that of each element
pub All-map_contains : {A B : Type 0} (P : B → Type 0) (f : A → B) (xs : List A) (x : A) → All P (map f xs)
    → Contains xs x → P (f x)
All-map_contains P f xs x all there =
    let long : length (map f xs) ≡ length xs = length-map xs f in
    subst P (get_or-map f xs there.0 x (f x) there.1 ∙ ap f there.2)
    (all there.0 (f x) (omega (arith, there.1)))

-- the numbers of a list are within a bound if the first is and the others are
pub All-within_cons : (bound n : ℕ) (others : List ℕ) → n ≤ bound → All (λ m. m ≤ bound) others
    → All (λ m. m ≤ bound) (n ∷ others)
All-within_cons bound n others here after = All-cons (λ m. m ≤ bound) n others here after
