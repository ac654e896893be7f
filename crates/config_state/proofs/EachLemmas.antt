-- What holds of each entry of a list holds of each entry of a list that is made of it.
--
--   `Each-none`, `Each-more`, `Each-one`   no entry, one more, and only one
--   `Each-set`                             one entry is set
--   `Each-append`, `Each-replicate`        two lists together, and the same entry several times
use Rattle.std.proofs.Common.{ℕ, zero, suc, List, [], ◌∷◌, ◌++◌, set, replicate, refl, subst}
use Rattle.std.proofs.lemmas.Option.{none-some, same_Some}
use Rattle.config_state.specs.Configurations.{Each}

-- no entry
pub Each-none : {A : Type 0} (Holds : ℕ → A → Type 0) → Each [] Holds
Each-none Holds index entry is = absurd (none-some entry is)

-- one more entry before others
pub Each-more : {A : Type 0} (Holds : ℕ → A → Type 0) (first : A) (others : List A) → Holds 0 first
    → Each others (λ index entry. Holds (suc index) entry) → Each (first ∷ others) Holds
Each-more Holds first others holds each zero entry is = subst (Holds 0) (same_Some first entry is) holds
Each-more Holds first others holds each (suc index) entry is = each index entry is

-- only one entry
pub Each-one : {A : Type 0} (Holds : ℕ → A → Type 0) (entry : A) → Holds 0 entry → Each (entry ∷ []) Holds
Each-one Holds entry holds = Each-more Holds entry [] holds (Each-none _)

-- one entry is set
pub Each-set : {A : Type 0} (Holds : A → Type 0) (list : List A) (index : ℕ) (new : A) → Holds new
    → Each list (λ index entry. Holds entry) → Each (set list index new) (λ index entry. Holds entry)
Each-set Holds [] index new holds each = each
Each-set Holds (first ∷ others) zero new holds each =
    Each-more (λ index. Holds) new others holds (λ index. each (suc index))
Each-set Holds (first ∷ others) (suc index) new holds each =
    Each-more (λ index. Holds) first (set others index new) (each 0 first refl)
    (Each-set Holds others index new holds (λ index. each (suc index)))

-- others follow
pub Each-append : {A : Type 0} (Holds : A → Type 0) (list others : List A) → Each list (λ index entry. Holds entry)
    → Each others (λ index entry. Holds entry) → Each (list ++ others) (λ index entry. Holds entry)
Each-append Holds [] others each rest = rest
Each-append Holds (first ∷ list) others each rest =
    Each-more (λ index. Holds) first (list ++ others) (each 0 first refl)
    (Each-append Holds list others (λ index. each (suc index)) rest)

-- the same entry several times
pub Each-replicate : {A : Type 0} (Holds : A → Type 0) (count : ℕ) (same : A) → Holds same
    → Each (replicate count same) (λ index entry. Holds entry)
Each-replicate Holds zero same holds = Each-none _
Each-replicate Holds (suc count) same holds =
    Each-more (λ index. Holds) same (replicate count same) holds (Each-replicate Holds count same holds)
