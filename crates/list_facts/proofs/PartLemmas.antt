-- Parts of lists: where a part is in a list that is put together of several, which item is then at an index, and that
-- lists are related one by one if their parts are.
use Rattle.std.proofs.Common.{List, ℕ, drop, ◌≡◌, ◌++◌, sym, [], ◌∙◌, append_assoc, ◌+◌, length, ap, refl, ◌∷◌, arith, zero, suc, subst}
use Rattle.std.proofs.lemmas.List.{append-nil, drop-drop, drop_at}
use Rattle.std.specs.Prelude.{slice_get, Some, IsSomeAnd, MatchOption, ⊤}
use Rattle.std.specs.List.{AllZip}
use Rattle.std.proofs.lemmas.Slice.Zip.{AllZip-left}

-- From this index on a list has this part, after which others may follow.
pub record StandsAt {A : Type 0} (all : List A) (index : ℕ) (part : List A) : Type 0 where
  pub others : List A
  pub is : drop index all ≡ part ++ others

-- a list stands in itself from its start on
pub whole_stands : {A : Type 0} (all : List A) → StandsAt all 0 all
whole_stands all = record { others = []; is = sym (append-nil all) }

-- the first of two parts stands where both do
pub first_stands : {A : Type 0} {all : List A} {index : ℕ} (one other : List A) → StandsAt all index (one ++ other)
    → StandsAt all index one
first_stands one other stands = record {
  others = other ++ stands.others;
  is = stands.is ∙ append_assoc one other stands.others;
}

-- the second one stands after the first
pub second_stands : {A : Type 0} {all : List A} {index next : ℕ} (one other : List A) → next ≡ index + length one
    → StandsAt all index (one ++ other) → StandsAt all next other
second_stands {A} {all} {index} {next} one other after stands = record {
  others = stands.others;
  is =
      ap (λ (n : ℕ). drop n all) after
      ∙ (sym (drop-drop (length one) index all)
      ∙ (ap (drop (length one)) (stands.is ∙ append_assoc one other stands.others)
      ∙ drop_at one (other ++ stands.others) (length one) refl));
}

-- the items of a part after its first one stand at the next index
pub others_stand : {A : Type 0} {all : List A} {index : ℕ} {item : A} {others : List A}
    → StandsAt all index (item ∷ others) → StandsAt all (index + 1) others
others_stand {A} {all} {index} {item} {others} stands = second_stands (item ∷ []) others (omega arith) stands

-- the first item of what is not dropped is at the index up to which items are dropped
slice_get-from_drop : {A : Type 0} (items : List A) (index : ℕ) (item : A) (others : List A)
    → drop index items ≡ item ∷ others → slice_get items index ≡ Some item
slice_get-from_drop [] zero item others is = absurd (cc)
slice_get-from_drop [] (suc index) item others is = absurd (cc)
slice_get-from_drop (one ∷ items) zero item others is = cc
slice_get-from_drop (one ∷ items) (suc index) item others is = slice_get-from_drop items index item others is

-- the first item of a part is at the index at which the part stands
pub item_stands : {A : Type 0} {all : List A} {index : ℕ} {item : A} {others : List A}
    → StandsAt all index (item ∷ others) → slice_get all index ≡ Some item
item_stands {A} {all} {index} {item} {others} stands =
    slice_get-from_drop all index item (others ++ stands.others) stands.is

-- lists are related one by one if their parts are
pub AllZip-append : {A B : Type 0} (R : A → B → Type 0) (one : List A) (two : List B) (other : List A) (more : List B)
    → AllZip R one two → AllZip R other more → AllZip R (one ++ other) (two ++ more)
AllZip-append R [] [] other more first second = second
AllZip-append R [] (y ∷ two) other more first second = absurd first
AllZip-append R (x ∷ one) [] other more first second = absurd first
AllZip-append R (x ∷ one) (y ∷ two) other more first second =
    (first.0, AllZip-append R one two other more first.1 second)

-- the items at one index of such lists are related
pub AllZip-slice_get : {A B : Type 0} (R : A → B → Type 0) (xs : List A) (ys : List B) → AllZip R xs ys → (index : ℕ)
    (x : A) (y : B) → slice_get xs index ≡ Some x → slice_get ys index ≡ Some y → R x y
AllZip-slice_get R xs ys zipped index x y x_is y_is =
    subst (λ other. IsSomeAnd other (R x)) y_is
    (subst (λ one. MatchOption one ⊤ (λ item. IsSomeAnd (slice_get ys index) (R item))) x_is
    (AllZip-left R xs ys zipped index))
