-- What a loop adds to a list.
--
--   `adds_none`, `adds_one`, `adds_as`         nothing was added, one was, and what was is told in other words
--   `each_cases`               what one element more gives
--   `each_none`, `each_more`, `each_all`       a loop over a list: at its start, one turn, at its end
--   `each_mapped`                              the same by the images of the elements
use Rattle.std.proofs.Common.{◌≡◌, ◌⊎◌, inl, inr, ⊎_elim, ℕ, ◌+◌, ◌<◌, ◌≤◌, List, [], ◌∷◌, ◌++◌, map, take, length, Contains, sym, subst, arith, ◌∙◌}
use Rattle.std.specs.Prelude.{Result, Ok, Err, OnOk, get_or}
use Rattle.std.proofs.lemmas.List.{take_more, take_all}
use Rattle.std.proofs.lemmas.List.Elements.{Contains-append_left, Contains-push_cases, Contains-push}
use Rattle.circularity_test.specs.Adding.{Adds, OfEach}
use Rattle.saturation.proofs.ImageLemmas.{contains_map, contains_mapped}

-- what holds of a success in other words
pub on_ok : {A E : Type 0} {One Other : Type 0} (result : Result A E) → (One → Other) → OnOk result One
    → OnOk result Other
on_ok (Ok it) to one = to one
on_ok (Err why) to one = tt

-- nothing was added
pub adds_none : {A : Type 0} {Is : A → Type 0} {before now : List A} → now ≡ before → ((one : A) → Is one → ⊥)
    → Adds Is before now
adds_none {A} {Is} {before} {now} same none = record {
  kept = λ one there. subst (λ list. Contains list one) (sym same) there;
  only = λ one there. inl (subst (λ list. Contains list one) same there);
  all = λ one is. absurd (none one is);
}

-- one was added
pub adds_one : {A : Type 0} {Is : A → Type 0} {before now : List A} (added : A) → now ≡ before ++ added ∷ [] → Is added
    → ((one : A) → Is one → added ≡ one) → Adds Is before now
adds_one {A} {Is} {before} {now} added is it same = record {
  kept = λ one there. subst (λ list. Contains list one) (sym is) (Contains-append_left before (added ∷ []) one there);
  only = λ one there. ⊎_elim inl (λ last. inr (subst Is last it))
      (Contains-push_cases before added one (subst (λ list. Contains list one) is there));
  all = λ one has. subst (λ list. Contains list one) (sym is)
      (subst (Contains (before ++ added ∷ [])) (same one has) (Contains-push before added));
}

-- what was added in other words
pub adds_as : {A : Type 0} {Is Other : A → Type 0} {before now : List A} → Adds Is before now
    → ((one : A) → Is one → Other one) → ((one : A) → Other one → Is one) → Adds Other before now
adds_as adds to from = record {
  kept = adds.kept;
  only = λ one there. ⊎_elim inl (λ is. inr (to one is)) (adds.only one there);
  all = λ one is. adds.all one (from one is);
}

-- one thing was added after the other
pub adds_then : {A : Type 0} {Is Other : A → Type 0} {before between now : List A} → Adds Is before between
    → Adds Other between now → Adds (λ one. Is one ⊎ Other one) before now
adds_then first second = record {
  kept = λ one there. second.kept one (first.kept one there);
  only = λ one there. ⊎_elim
      (λ earlier. ⊎_elim inl (λ is. inr (inl is)) (first.only one earlier))
      (λ other. inr (inr other)) (second.only one there);
  all = λ one is. ⊎_elim (λ first_is. second.kept one (first.all one first_is)) (λ other. second.all one other) is;
}

module _ {A B : Type 0} {Is : A → B → Type 0} where
  -- nothing was added before the first turn
  pub each_none : {before now : List B} (list : List A) → now ≡ before → Adds (OfEach Is (take 0 list)) before now
  each_none list same = adds_none same (λ one each. omega (arith, each.inside.1))

  -- what one element more gives is by the earlier ones or by this one
  pub each_cases : (list : List A) (index : ℕ) (item : A) → index < length list → item ≡ get_or list index item
      → (one : B) → OfEach Is (take (index + 1) list) one → OfEach Is (take index list) one ⊎ Is item one
  each_cases list index item within is one each = ⊎_elim
      (λ earlier. inl (record { from = each.from; inside = earlier; is = each.is }))
      (λ same. inr (subst (λ it. Is it one) (sym same ∙ sym is) each.is))
      (Contains-push_cases (take index list) (get_or list index item) each.from
      (subst (λ part. Contains part each.from) (take_more list index item within) each.inside))

  -- what one element more gives was added
  pub each_more : {before between now : List B} (list : List A) (index : ℕ) (item : A) → index < length list
      → item ≡ get_or list index item → Adds (OfEach Is (take index list)) before between
      → Adds (Is item) between now → Adds (OfEach Is (take (index + 1) list)) before now
  each_more list index item within is so_far step =
      let more = take_more list index item within in
      adds_as (adds_then so_far step)
      (λ one there. ⊎_elim
      (λ each. record {
        from = each.from;
        inside = subst (λ part. Contains part each.from) (sym more)
            (Contains-append_left (take index list) (get_or list index item ∷ []) each.from each.inside);
        is = each.is;
      })
      (λ new. record {
        from = item;
        inside = subst (λ it. Contains (take (index + 1) list) it) (sym is)
            (subst (λ part. Contains part (get_or list index item)) (sym more)
            (Contains-push (take index list) (get_or list index item)));
        is = new;
      }) there)
      (λ one each. each_cases list index item within is one each)

  -- what all elements give was added
  pub each_all : {before now : List B} (list : List A) (index : ℕ) → length list ≤ index
      → Adds (OfEach Is (take index list)) before now → Adds (OfEach Is list) before now
  each_all {before} {now} list index over added =
      subst (λ part. Adds (OfEach Is part) before now) (take_all index list over) added

-- What the images of elements give was added.
pub each_mapped : {A B C : Type 0} {Is : B → C → Type 0} (image : A → B) {before now : List C} (list : List A)
    → Adds (OfEach (λ one. Is (image one)) list) before now → Adds (OfEach Is (map image list)) before now
each_mapped {A} {B} {C} {Is} image list added = adds_as added
    (λ one each. record {
      from = image each.from;
      inside = contains_map image list each.from each.inside;
      is = each.is;
    })
    (λ one each.
    let from = contains_mapped image list each.from each.inside in
    record { from = from.0; inside = from.1; is = subst (λ it. Is it one) (sym from.2) each.is })
