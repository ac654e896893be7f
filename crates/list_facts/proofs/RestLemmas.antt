-- The rest of a list from an index on, by what is at its indices.
use Rattle.std.proofs.Common.{List, ℕ, ◌≡◌, ◌+◌, ◌∷◌, arith, ap, sym, ◌∙◌, suc}
use Rattle.std.specs.Prelude.{slice_get, Some}

-- the items of a list from an index on
abbrev pub IsRest : {A : Type 0} → List A → ℕ → List A → Type 0
IsRest items index rest = (k : ℕ) → slice_get rest k ≡ slice_get items (index + k)

-- the first of them, and the others
pub rest_first : {A : Type 0} (items : List A) (index : ℕ) (one : A) (others : List A)
    → IsRest items index (one ∷ others) → slice_get items index ≡ Some one
rest_first items index one others is =
    let at : index + 0 ≡ index = omega arith in
    ap (slice_get items) (sym at) ∙ sym (is 0)

pub rest_others : {A : Type 0} (items : List A) (index : ℕ) (one : A) (others : List A)
    → IsRest items index (one ∷ others) → IsRest items (index + 1) others
rest_others items index one others is = λ k.
    let at : index + suc k ≡ index + 1 + k = omega arith in
    is (suc k) ∙ ap (slice_get items) at
