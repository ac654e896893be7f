-- Mapped lists: searches in them, their reverse, and one more item.
use Rattle.std.proofs.Common.{Bool, List, map, ◌≡◌, refl, ◌∷◌, ap, ◌||◌, [], cond, not, ◌+◌, ◌++◌, true, false, ℕ, zero, suc, reverse, ◌∙◌, sym, append_assoc, arith}
use Rattle.std.specs.List.{list_any, position_or_len, position, All}
use Rattle.std.proofs.lemmas.List.{length-map, map-append, reverse-append}
use Rattle.std.specs.Prelude.{Option, option_and_then, slice_get}

-- a test of the mapped list is one of the list
pub list_any-map : {A B : Type 0} (f : A → B) (p : B → Bool) (xs : List A)
    → list_any p (map f xs) ≡ list_any (λ x. p (f x)) xs
list_any-map f p [] = refl
list_any-map f p (x ∷ xs) = ap (λ b. p (f x) || b) (list_any-map f p xs)

-- so is a search for the first element that passes
pub position_or_len-map : {A B : Type 0} (f : A → B) (p : B → Bool) (xs : List A)
    → position_or_len p (map f xs) ≡ position_or_len (λ x. p (f x)) xs
position_or_len-map f p [] = refl
position_or_len-map f p (x ∷ xs) = ap (λ n. cond (not (p (f x))) (1 + n) 0) (position_or_len-map f p xs)

pub position-map : {A B : Type 0} (f : A → B) (p : B → Bool) (xs : List A)
    → position p (map f xs) ≡ position (λ x. p (f x)) xs
position-map f p xs = rw (position_or_len-map f p xs, length-map xs f) refl

-- an element that is added at the end is at the end of the mapped list
added-map : {A B : Type 0} (f : A → B) (found : Bool) (xs : List A) (x : A)
    → map f (cond found xs (xs ++ x ∷ [])) ≡ cond found (map f xs) (map f xs ++ f x ∷ [])
added-map f true xs x = refl
added-map f false xs x = map-append f xs (x ∷ [])

-- the mapped list after an element is inserted, if it is not there yet
pub inserted-map : {A B : Type 0} (f : A → B) (p : B → Bool) (xs : List A) (x : A)
    → map f (cond (list_any (λ y. p (f y)) xs) xs (xs ++ x ∷ []))
    ≡ cond (list_any p (map f xs)) (map f xs) (map f xs ++ f x ∷ [])
inserted-map f p xs x = rw list_any-map (added-map f (list_any (λ y. p (f y)) xs) xs x)

-- a look-up in one list is a look-up in the mapped list
pub look_up-map : {A B C : Type 0} (view : A → B) (find : B → Option C) (items : List A) (index : ℕ)
    → option_and_then (λ item. find (view item)) (slice_get items index)
    ≡ option_and_then find (slice_get (map view items) index)
look_up-map view find [] index = refl
look_up-map view find (item ∷ others) zero = refl
look_up-map view find (item ∷ others) (suc index) = look_up-map view find others index

-- a list is mapped before or after its order is turned
pub reverse-map : {A B : Type 0} (f : A → B) (list : List A) → reverse (map f list) ≡ map f (reverse list)
reverse-map f [] = refl
reverse-map {A} {B} f (first ∷ others) = reverse-append (f first ∷ []) (map f others)
    ∙ (ap (λ (rest : List B). rest ++ f first ∷ []) (reverse-map f others)
    ∙ (sym (map-append f (reverse others) (first ∷ []))
    ∙ ap (map f) (sym (reverse-append (first ∷ []) others))))

-- a list of which one map is empty has no map that is not
pub map-none : {A B : Type 0} (f g : A → B) (list : List A) → map f list ≡ [] → map g list ≡ []
map-none f g [] none = refl
map-none f g (first ∷ others) none = absurd cc

-- the image of the last entry is the first one in the other order
pub reverse-map_last : {A B : Type 0} (f : A → B) (front : List A) (last : A)
    → reverse (map f (front ++ last ∷ [])) ≡ f last ∷ reverse (map f front)
reverse-map_last f front last = rw (map-append, reverse-append) refl

-- the image of one more item comes between those before it and those after it
pub map-append_one : {A B : Type 0} (f : A → B) (items : List A) (one : A) (after : List B)
    → map f (items ++ one ∷ []) ++ after ≡ map f items ++ f one ∷ after
map-append_one f items one after =
    ap (λ images. images ++ after) (map-append f items (one ∷ []))
    ∙ append_assoc (map f items) (f one ∷ []) after

-- tests that agree on each element of a list agree on whether one passes
pub list_any-same : {A : Type 0} (p q : A → Bool) (xs : List A) → All (λ x. p x ≡ q x) xs → list_any p xs ≡ list_any q xs
list_any-same p q [] same = refl
list_any-same p q (x ∷ xs) same =
    ap (λ (b : Bool). b || list_any p xs) (same 0 x (omega arith))
    ∙ ap (λ (b : Bool). q x || b) (list_any-same p q xs (λ k d less. same (suc k) d (omega (arith, less))))
