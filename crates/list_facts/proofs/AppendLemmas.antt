-- Two lists together: they are empty if both are, and what is made of each item.
use Rattle.std.proofs.Common.{List, ◌∷◌, ◌≡◌, suc, length, ap, arith, [], ◌++◌, refl, sym, ◌∙◌, append_assoc}

-- a list with an element is not empty
pub not_empty : {A P : Type 0} (x : A) (xs : List A) → x ∷ xs ≡ [] → P
not_empty x xs none =
    let impossible : suc (length xs) ≡ 0 = ap length none in
    absurd (omega (arith, impossible))

-- lists that have no element together have none each
pub both_empty : {A : Type 0} (xs ys : List A) → xs ++ ys ≡ [] → (xs ≡ []) × (ys ≡ [])
both_empty [] ys none = (refl, none)
both_empty (x ∷ xs) ys none = not_empty x (xs ++ ys) none

-- if two lists are empty, so is the one after the other
pub empty_both : {A : Type 0} (one other : List A) → one ≡ [] → other ≡ [] → one ++ other ≡ []
empty_both one other one_none other_none = rw (one_none, other_none) refl

-- what is made of items one by one is, for two lists, that of the first and then that of the second
pub each_of_both : {A B : Type 0} (all : List A → List B) (one : A → List B) → all [] ≡ []
    → ((item : A) (others : List A) → all (item ∷ others) ≡ one item ++ all others) → (first second : List A)
    → all (first ++ second) ≡ all first ++ all second
each_of_both {A} {B} all one none more [] second = ap (λ (xs : List B). xs ++ all second) (sym none)
each_of_both {A} {B} all one none more (item ∷ first) second =
    more item (first ++ second)
    ∙ (ap (λ (xs : List B). one item ++ xs) (each_of_both all one none more first second)
    ∙ (sym (append_assoc (one item) (all first) (all second))
    ∙ ap (λ (xs : List B). xs ++ all second) (sym (more item first))))
