-- Loops in which each element of a list gives something to find, and loops over an index.
--
--   `finds_each_none`, `finds_each_more`, `finds_each`     a loop over a list: at its start, one turn, at its end
--   `UpTo`, `adds_up_none`, `adds_up_more`     what is asked for of an index below another, in a loop over it
--   `finds_none`, `inside_none`                nothing was added to other things, and an empty list has no element
use Rattle.std.proofs.Common.{◌≡◌, ◌⊎◌, inl, inr, ⊎_elim, ℕ, ◌+◌, ◌<◌, ◌≤◌, List, [], ◌∷◌, take, length, Contains, refl, sym, subst, arith, ◌∙◌}
use Rattle.std.specs.Prelude.{get_or}
use Rattle.std.proofs.lemmas.Bool.Decides.{leb_tells}
use Rattle.std.proofs.lemmas.List.{take_more, take_all}
use Rattle.std.proofs.lemmas.List.Elements.{Contains-append_left, Contains-push_cases, Contains-push}
use Rattle.contract_terms.specs.declared.fact.Fact.{Fact}
use Rattle.saturation.specs.Passing.{FromEach}
use Rattle.saturation.specs.Steps.{Adds, Nothing, Finds}
use Rattle.saturation.specs.declared.derivation.Derivation.{Derivation}
use Rattle.saturation.proofs.FindLemmas.{finds_as, finds_then_more}
use Rattle.saturation.proofs.StepLemmas.{adds_by, adds_then}

module _ {A B : Type 0} (There : A → List Fact → B → Type 0) where
  -- what the elements before an index give was added to other things
  abbrev pub FoundSoFar : List B → List A → ℕ → List B → Derivation → Derivation → Type 0
  FoundSoFar older list index =
      Finds (λ known one. Contains older one ⊎ FromEach There (take index list) known one)

  -- nothing was added before the first turn
  pub finds_each_none : (older : List B) (list : List A) (start : Derivation)
      → FoundSoFar older list 0 older start start
  finds_each_none older list start = record {
    same = refl;
    limit = refl;
    went_on = λ going. going;
    only = λ one there. inl there;
    all = λ going one there. ⊎_elim (λ earlier. earlier) (λ each. absurd (omega (arith, each.inside.1))) there;
  }

  -- what one element more gives was added
  pub finds_each_more : (older : List B) {between now : List B} {start middle end : Derivation} (list : List A)
      (index : ℕ) (item : A) → index < length list → item ≡ get_or list index item
      → FoundSoFar older list index between start middle
      → Finds (λ known one. Contains between one ⊎ There item known one) now middle end
      → FoundSoFar older list (index + 1) now start end
  finds_each_more older {start = start} list index item within is so_far step =
      let more = take_more list index item within in
      finds_as (finds_then_more so_far step)
      (λ one there. ⊎_elim
      (λ earlier. ⊎_elim (λ old. inl old) (λ each. inr (record {
        from = each.from;
        inside = subst (λ part. Contains part each.from) (sym more)
            (Contains-append_left (take index list) (get_or list index item ∷ []) each.from each.inside);
        there = each.there;
      })) earlier)
      (λ new. inr (record {
        from = item;
        inside = subst (λ it. Contains (take (index + 1) list) it) (sym is)
            (subst (λ part. Contains part (get_or list index item)) (sym more)
            (Contains-push (take index list) (get_or list index item)));
        there = new;
      })) there)
      (λ one there. ⊎_elim (λ old. inl (inl old)) (λ each. ⊎_elim
      (λ earlier. inl (inr (record { from = each.from; inside = earlier; there = each.there })))
      (λ same. inr (subst (λ it. There it start.facts one) (sym same ∙ sym is) each.there))
      (Contains-push_cases (take index list) (get_or list index item) each.from
      (subst (λ part. Contains part each.from) more each.inside))) there)

  -- what all elements give was added
  pub finds_each : (older : List B) {now : List B} {start end : Derivation} (list : List A) (index : ℕ)
      → length list ≤ index
      → FoundSoFar older list index now start end
      → Finds (λ known one. Contains older one ⊎ FromEach There list known one) now start end
  finds_each older {now} {start} {end} list index over step = subst
      (λ part. Finds (λ known one. Contains older one ⊎ FromEach There part known one) now start end)
      (take_all index list over) step

module _ (low : ℕ) (Asked : ℕ → List Fact → Fact → Type 0) where
  -- Something is asked for of an index that is at least the lowest one and below another.
  pub record UpTo (index : ℕ) (known : List Fact) (fact : Fact) : Type 0 where
    pub at : ℕ
    pub least : low ≤ at
    pub below : at < index
    pub asked : Asked at known fact

  -- nothing is asked for of an index below the lowest one
  pub adds_up_none : {before now : Derivation} → Adds Nothing before now → Adds (UpTo low) before now
  adds_up_none step =
      adds_by step (λ known fact up. absurd (omega (arith, up.least, up.below))) (λ known fact none. absurd none)

  -- one index more
  pub adds_up_more : {before between now : Derivation} (index : ℕ) → low ≤ index
      → Adds (UpTo index) before between → Adds (Asked index) between now → Adds (UpTo (index + 1)) before now
  adds_up_more index least first next =
      adds_by (adds_then first next) (λ known fact up. split known fact up) (λ known fact either. ⊎_elim
      (λ up. record { at = up.at; least = up.least; below = omega (arith, up.below); asked = up.asked })
      (λ asked. record { at = index; least = least; below = omega arith; asked = asked })
      either)
    where
      split : (known : List Fact) (fact : Fact) → UpTo (index + 1) known fact
          → UpTo index known fact ⊎ Asked index known fact
      split known fact up = ⊎_elim
          (λ past. let same : up.at ≡ index = omega (arith, past.1, up.below) in
          inr (subst (λ at. Asked at known fact) same up.asked))
          (λ before. inl (record { at = up.at; least = up.least; below = before.1; asked = up.asked }))
          (leb_tells index up.at)

-- nothing was added to others
pub finds_none : {A : Type 0} (items : List A) (Other : List Fact → A → Type 0) {start : Derivation}
    → ((known : List Fact) (one : A) → Other known one → ⊥)
    → Finds (λ known one. Contains items one ⊎ Other known one) items start start
finds_none items Other {start} not = record {
  same = refl;
  limit = refl;
  went_on = λ going. going;
  only = λ one inside. inl inside;
  all = λ going one there. ⊎_elim (λ older. older) (λ other. absurd (not start.facts one other)) there;
}

-- an empty list has no element
pub inside_none : {A : Type 0} (items : List A) → items ≡ [] → (one : A) → Contains items one → ⊥
inside_none {A} items none one there =
    omega (arith, (subst (λ (list : List A). Contains list one) none there).1)
