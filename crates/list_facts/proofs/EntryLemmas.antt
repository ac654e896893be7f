-- The entries of a list: at an index, from an index on, and in two lists together.
use Rattle.std.proofs.Common.{List, ℕ, ◌<◌, length, ◌≡◌, get_or, drop, ◌∷◌, ◌+◌, ◌∙◌, ap, sym, add-one, drop-cons, refl, ◌++◌, zero, suc, [], ◌⊎◌, inr, inl, ⊎_elim, arith, map, option_map, ◌≤◌, None, take}
use Rattle.std.proofs.lemmas.List.{drop_more, take_more, take-append-drop}
use Rattle.std.specs.List.{slice_get}
use Rattle.std.specs.Prelude.{Some, nat_lt, is_some}
use Rattle.std.proofs.lemmas.Option.{slice_get_within, get_or_from_slice_get, none-some, same_Some, slice_get-map, slice_get_read, slice_get_past, slice_get-get_or}
use Rattle.std.proofs.lemmas.Bool.Decides.{nat_tests}

-- the rest of a list from an index is the entry at that index, followed by the entries after it
pub drop_item : {A : Type 0} (items : List A) (index : ℕ) (item : A) → index < length items
    → item ≡ get_or items index item
    → drop index items ≡ item ∷ drop (index + 1) items
drop_item {A} items index item there is =
    drop_more items index item there ∙ ap (λ (one : A). one ∷ drop (index + 1) items) (sym is)

-- the same where the entry at an index was found
pub drop_found : {T : Type 0} (xs : List T) (i : ℕ) (x : T) → slice_get xs i ≡ Some x → drop i xs ≡ x ∷ drop (i + 1) xs
drop_found xs i x e =
    let within = slice_get_within xs i x e in
    let here = get_or_from_slice_get xs i x x e in
    rw (add-one, drop-cons xs i x within, here) refl

-- what is at an index of a list stays there when more follows
pub slice_get-front : {X : Type 0} (list others : List X) (index : ℕ) (found : X) → slice_get list index ≡ Some found
    → slice_get (list ++ others) index ≡ Some found
slice_get-front [] others index found is = absurd (none-some found is)
slice_get-front (first ∷ list) others zero found is = is
slice_get-front (first ∷ list) others (suc index) found is = slice_get-front list others index found is

-- the first one of those that follow a list is at its length
pub slice_get-next : {X : Type 0} (list : List X) (next : X) (others : List X)
    → slice_get (list ++ next ∷ others) (length list) ≡ Some next
slice_get-next [] next others = refl
slice_get-next (first ∷ list) next others = slice_get-next list next others

-- what is at an index of two lists together is at this index of the first one, or in the second one
pub slice_get-append : {X : Type 0} (list others : List X) (index : ℕ) (found : X)
    → slice_get (list ++ others) index ≡ Some found
    → (slice_get list index ≡ Some found) ⊎ ((place : ℕ) × (slice_get others place ≡ Some found))
slice_get-append [] others index found is = inr (index, is)
slice_get-append (first ∷ list) others zero found is = inl is
slice_get-append (first ∷ list) others (suc index) found is = slice_get-append list others index found is

-- what is at an index of a list with one more element was there, or is that element
pub slice_get-push : {X : Type 0} (list : List X) (last : X) (index : ℕ) (found : X)
    → slice_get (list ++ last ∷ []) index ≡ Some found
    → (slice_get list index ≡ Some found) ⊎ ((length list ≡ index) × (last ≡ found))
slice_get-push [] last zero found is = inr (refl, same_Some last found is)
slice_get-push [] last (suc index) found is = absurd (none-some found is)
slice_get-push (first ∷ others) last zero found is = inl is
slice_get-push (first ∷ others) last (suc index) found is =
    ⊎_elim inl (λ both. inr (ap suc both.0, both.1)) (slice_get-push others last index found is)

-- there is an item at each index of a list
pub slice_get-there : {A : Type 0} (items : List A) (index : ℕ) → index < length items
    → (item : A) × (slice_get items index ≡ Some item)
slice_get-there [] index within = absurd (omega (arith, within))
slice_get-there (item ∷ others) zero within = (item, refl)
slice_get-there (item ∷ others) (suc index) within = slice_get-there others index (omega (arith, within))

-- at an index of the first of two lists is what is there in the first
pub slice_get-before : {A : Type 0} (first others : List A) (index : ℕ) → index < length first
    → slice_get (first ++ others) index ≡ slice_get first index
slice_get-before first others index within =
    let item = slice_get-there first index within in
    slice_get-front first others index item.0 item.1 ∙ sym item.1

-- at an index past the first is what is there in the second
pub slice_get-after : {A : Type 0} (first others : List A) (place index : ℕ) → place ≡ length first + index
    → slice_get (first ++ others) place ≡ slice_get others index
slice_get-after [] others place index same = ap (slice_get others) (omega (arith, same))
slice_get-after (item ∷ first) others zero index same = absurd (omega (arith, same))
slice_get-after (item ∷ first) others (suc place) index same = slice_get-after first others place index
    (omega (arith, same))

-- the view of an item of a list is at its index among the views
pub slice_get-map_there : {A B : Type 0} (view : A → B) (items : List A) (index : ℕ) (item : A) → index < length items
    → item ≡ get_or items index item → slice_get (map view items) index ≡ Some (view item)
slice_get-map_there view items index item there is =
    slice_get-map view items index
    ∙ ap (option_map view) (slice_get_read items (length items) index item refl there is)

-- there is none past the list
pub slice_get-map_past : {A B : Type 0} (view : A → B) (items : List A) (index : ℕ) → length items ≤ index
    → slice_get (map view items) index ≡ None
slice_get-map_past view items index past =
    slice_get-map view items index ∙ ap (option_map view) (slice_get_past items index past)

-- one number is below another exactly where their predecessors are
nat_lt_suc : (one other : ℕ) → nat_lt (suc one) (suc other) ≡ nat_lt one other
nat_lt_suc one other = grind (arith, nat_tests)

-- there is an item at an index exactly where the index is below the length
pub is_some-slice_get : {X : Type 0} (items : List X) (place : ℕ)
    → nat_lt place (length items) ≡ is_some (slice_get items place)
is_some-slice_get [] place = grind (arith, nat_tests)
is_some-slice_get (first ∷ others) zero = grind (arith, nat_tests)
is_some-slice_get (first ∷ others) (suc place) = nat_lt_suc place (length others) ∙ is_some-slice_get others place

-- at an index of a list it is not so that nothing is there
pub slice_get-not_none : {A : Type 0} (xs : List A) (index : ℕ) → index < length xs → slice_get xs index ≡ None → ⊥
slice_get-not_none [] index there none = omega (arith, there)
slice_get-not_none (first ∷ others) index there none =
    none-some (get_or (first ∷ others) index first)
    (sym none ∙ slice_get-get_or (first ∷ others) index first there)

-- an entry of a mapped list is the image of the entry at its index
pub slice_get-mapped : {A B : Type 0} (f : A → B) (list : List A) (index : ℕ) (entry : B)
    → slice_get (map f list) index ≡ Some entry → (one : A) × (slice_get list index ≡ Some one) × (f one ≡ entry)
slice_get-mapped f [] index entry is = absurd (none-some entry is)
slice_get-mapped f (first ∷ others) zero entry is = (first, refl, same_Some (f first) entry is)
slice_get-mapped f (first ∷ others) (suc index) entry is = slice_get-mapped f others index entry is

-- a list of one item
pub list-one_item : {A : Type 0} (items : List A) (item : A) → 1 ≤ length items → length items < 2
    → item ≡ get_or items 0 item → items ≡ item ∷ []
list-one_item [] item some few is = absurd (omega (arith, some))
list-one_item {A} (first ∷ []) item some few is = ap (λ (one : A). one ∷ []) (sym is)
list-one_item (first ∷ second ∷ others) item some few is = absurd (omega (arith, few))

-- the items up to one, and that one
pub take-found : {A : Type 0} (items : List A) (index : ℕ) (item : A) → slice_get items index ≡ Some item
    → take (index + 1) items ≡ take index items ++ item ∷ []
take-found {A} items index item there =
    take_more items index item (slice_get_within items index item there)
    ∙ ap (λ (one : A). take index items ++ one ∷ []) (get_or_from_slice_get items index item item there)

-- a list is the items before one, that one and the others
pub split-found : {A : Type 0} (items : List A) (index : ℕ) (item : A) → slice_get items index ≡ Some item
    → items ≡ take index items ++ item ∷ drop (index + 1) items
split-found {A} items index item there =
    let within = slice_get_within items index item there in
    let found = get_or_from_slice_get items index item item there in
    sym (take-append-drop index items) ∙ ap (λ (rest : List A). take index items ++ rest)
    (rw (add-one, ← found) (drop-cons items index item within))
