-- Steps that make objects, one after the other, in loops, and after what was found.
--
--   `makes_of_adds`            a step that adds facts makes no object
--   `makes_then`               two steps
--   `makes_by`                 what is asked for, and what is made, in other words
--   `EachMade`, `ForThereMade`         what is made for each element of a list, and for all that is there
--   `makes_each_none`, `makes_each_more`, `makes_each`     a loop: at its start, one turn, at its end
--   `makes_found`              a loop over what was found
--   `makes_new`                the initial values of an object that is new are gone through
use Rattle.std.proofs.Common.{◌≡◌, ◌⊎◌, inl, inr, ⊎_elim, ℕ, ◌+◌, ◌<◌, ◌≤◌, List, [], ◌∷◌, ◌++◌, take, length, Contains, refl, sym, ap, subst, arith, ◌∙◌}
use Rattle.std.specs.Prelude.{get_or}
use Rattle.std.proofs.lemmas.List.{append_assoc, take_more, take_all}
use Rattle.std.proofs.lemmas.List.Elements.{Contains-append_left, Contains-push_cases, Contains-push}
use Rattle.abs_tree.specs.Syntax.{ProgramTree}
use Rattle.contract_terms.specs.declared.fact.Fact.{Fact}
use Rattle.contract_terms.specs.declared.terms.Terms.{Terms}
use Rattle.name_bounding.specs.declared.kind.Sign.{Sign}
use Rattle.saturation.specs.MakeSteps.{Begun, Makes}
use Rattle.saturation.specs.Rows.{Begins}
use Rattle.saturation.specs.Steps.{GoesOn, AreAmong, Adds, Nothing, Either, Each, ForThere, Finds}
use Rattle.saturation.specs.declared.derivation.Derivation.{Derivation}
use Rattle.saturation.proofs.StepLemmas.{stays}

-- no object is made
abbrev pub NoObjects : Sign → ℕ → Type 0
NoObjects sign class = ⊥

-- what is made of one of two is made
abbrev pub EitherMade : (Sign → ℕ → Type 0) → (Sign → ℕ → Type 0) → Sign → ℕ → Type 0
EitherMade One Other sign class = One sign class ⊎ Other sign class

-- what is made for an element of a list is made
pub record EachMade {A : Type 0} (Made : A → Sign → ℕ → Type 0) (list : List A) (sign : Sign) (class : ℕ) : Type 0 where
  pub one : A
  pub inside : Contains list one
  pub made : Made one sign class

-- what is made for something that is there is made
pub record ForThereMade {A : Type 0} (There : A → Type 0) (Made : A → Sign → ℕ → Type 0) (sign : Sign) (class : ℕ)
    : Type 0 where
  pub one : A
  pub there : There one
  pub made : Made one sign class

module _ (program : ProgramTree) (terms : Terms) (depth : ℕ) where
  -- what is there for objects is there among more facts
  begun_stays : (made : List (Sign × ℕ)) (known some others : List Fact) → AreAmong some others
      → Begun program terms depth made known some → Begun program terms depth made known others
  begun_stays made known some others among begun sign class inside fact begins =
      among fact (begun sign class inside fact begins)

  -- a step that adds facts makes no object
  pub makes_of_adds : {Asked : List Fact → Fact → Type 0} {made : List (Sign × ℕ)} {before now : Derivation}
      → Adds Asked before now → Makes program terms depth Asked NoObjects made made before now
  makes_of_adds step = record {
    more = step.more;
    grown = step.grown;
    limit = step.limit;
    went_on = step.went_on;
    stays = λ sign class inside. inside;
    only_made = λ sign class inside. inl inside;
    only = λ list among asked objects begun. (step.only list among asked, begun);
    all = λ going known among. (λ begun. begun_stays _ _ _ _ (stays step) begun, step.all going known among);
    makes = λ going sign class none. absurd none;
  }

  -- what is made of an object is there for it, once all that was known was gone through
  pub makes_new : {made later : List (Sign × ℕ)} {before now : Derivation} (sign : Sign) (class : ℕ)
      → later ≡ made ++ (sign, class) ∷ [] → Adds (Begins program terms depth class sign) before now
      → Makes program terms depth Nothing (λ other index. (other ≡ sign) × (index ≡ class)) made later before now
  makes_new {made} {later} {before} {now} sign class later_is step = record {
    more = step.more;
    grown = step.grown;
    limit = step.limit;
    went_on = step.went_on;
    stays = λ other index inside. subst (λ list. Contains list (other, index)) (sym later_is)
        (Contains-append_left made ((sign, class) ∷ []) (other, index) inside);
    only_made = λ other index inside. ⊎_elim (λ earlier. inl earlier)
        (λ same. inr (ap (λ (it : Sign × ℕ). it.0) (sym same), ap (λ (it : Sign × ℕ). it.1) (sym same)))
        (Contains-push_cases made (sign, class) (other, index)
        (subst (λ list. Contains list (other, index)) later_is inside));
    only = λ list among asked objects begun. (
      step.only list among (objects sign class (refl, refl)),
      begun_more list list begun
          (objects sign class (refl, refl)),
    );
    all = λ going known among. (
      λ begun. begun_more known now.facts (begun_stays _ _ _ _ (stays step) begun) (step.all going known among),
      λ fact none. absurd none,
    );
    makes = λ going other index is. subst (λ list. Contains list (other, index)) (sym later_is)
        (subst (λ it. Contains (made ++ (sign, class) ∷ []) it) (same_object (sym is.0) (sym is.1))
        (Contains-push made (sign, class)));
  }
    where
      same_object : {other : Sign} {index : ℕ} → sign ≡ other → class ≡ index
          → ◌≡◌ {A = Sign × ℕ} (sign, class) (other, index)
      same_object same_sign same_class = rw (same_sign, same_class) refl

      begun_more : (known facts : List Fact) → Begun program terms depth made known facts
          → ((fact : Fact) → Begins program terms depth class sign known fact → Contains facts fact)
          → Begun program terms depth later known facts
      begun_more known facts begun new other index inside fact begins = ⊎_elim
          (λ earlier. begun other index earlier fact begins)
          (λ same. new fact (subst (λ (object : Sign × ℕ). Begins program terms depth object.1 object.0 known fact)
          (sym same) begins))
          (Contains-push_cases made (sign, class) (other, index)
          (subst (λ list. Contains list (other, index)) later_is inside))

  -- an object that is there already is not gone through again
  pub makes_again : {made later : List (Sign × ℕ)} {before now : Derivation} (sign : Sign) (class : ℕ)
      → later ≡ made → Contains made (sign, class) → Adds Nothing before now
      → Makes program terms depth Nothing (λ other index. (other ≡ sign) × (index ≡ class)) made later before now
  makes_again {made} {later} {before} {now} sign class later_is there step =
      subst (λ list. Makes program terms depth Nothing (λ other index. (other ≡ sign) × (index ≡ class)) made list
      before now) (sym later_is) (record {
        more = step.more;
        grown = step.grown;
        limit = step.limit;
        went_on = step.went_on;
        stays = λ other index inside. inside;
        only_made = λ other index inside. inl inside;
        only = λ list among asked objects begun. (step.only list among asked, begun);
        all = λ going known among. (λ begun. begun_stays _ _ _ _ (stays step) begun, step.all going known among);
        makes = λ going other index is.
            subst (λ (it : Sign × ℕ). Contains made it) (rw (sym is.0, sym is.1) refl) there;
      })

  -- a step after which the work does not go on makes what is asked for, if it makes nothing
  pub makes_ended : {Asked : List Fact → Fact → Type 0} {Objects : Sign → ℕ → Type 0}
      {made later : List (Sign × ℕ)} {before now : Derivation} → later ≡ made → Adds Nothing before now
      → (GoesOn now → ⊥) → Makes program terms depth Asked Objects made later before now
  makes_ended {Asked} {Objects} {made} {later} {before} {now} later_is step ended =
      subst (λ list. Makes program terms depth Asked Objects made list before now) (sym later_is) (record {
        more = step.more;
        grown = step.grown;
        limit = step.limit;
        went_on = step.went_on;
        stays = λ sign class inside. inside;
        only_made = λ sign class inside. inl inside;
        only = λ list among asked objects begun. (step.only list among (λ fact none. absurd none), begun);
        all = λ going. absurd (ended going);
        makes = λ going sign class object. absurd (ended going);
      })

  module _ {One Other : List Fact → Fact → Type 0} {OneMade OtherMade : Sign → ℕ → Type 0} where
    -- two steps make what is made of one of them
    pub makes_then : {made between_made later : List (Sign × ℕ)} {before between now : Derivation}
        → Makes program terms depth One OneMade made between_made before between
        → Makes program terms depth Other OtherMade between_made later between now
        → Makes program terms depth (Either One Other) (EitherMade OneMade OtherMade) made later before now
    makes_then {made} {between_made} {later} {before} {between} {now} first next = record {
      more = first.more ++ next.more;
      grown = next.grown ∙ ap (λ list. list ++ next.more) first.grown ∙ append_assoc before.facts first.more next.more;
      limit = next.limit ∙ first.limit;
      went_on = λ going. first.went_on (next.went_on going);
      stays = λ sign class inside. next.stays sign class (first.stays sign class inside);
      only_made = λ sign class inside. ⊎_elim
          (λ earlier. ⊎_elim (λ old. inl old) (λ new. inr (inl new)) (first.only_made sign class earlier))
          (λ new. inr (inr new)) (next.only_made sign class inside);
      only = λ list among asked objects begun.
          let to_here = first.only list among (λ fact one. asked fact (inl one))
          (λ sign class object. objects sign class (inl object)) begun in
          next.only list to_here.0 (λ fact other. asked fact (inr other))
          (λ sign class object. objects sign class (inr object)) to_here.1;
      all = λ going known among.
          let to_here = first.all (next.went_on going) known among in
          let from_here = next.all going known (λ fact there. grows (among fact there)) in (
            λ begun. from_here.0 (to_here.0 begun),
            λ fact asked. ⊎_elim (λ one. goes_on (to_here.1 fact one)) (from_here.1 fact) asked,
          );
      makes = λ going sign class object. ⊎_elim
          (λ one. next.stays sign class (first.makes (next.went_on going) sign class one))
          (next.makes going sign class) object;
    }
      where
        grows : {fact : Fact} → Contains before.facts fact → Contains between.facts fact
        grows {fact} there = subst (λ list. Contains list fact) (sym first.grown)
            (Contains-append_left before.facts first.more fact there)

        goes_on : {fact : Fact} → Contains between.facts fact → Contains now.facts fact
        goes_on {fact} there = subst (λ list. Contains list fact) (sym next.grown)
            (Contains-append_left between.facts next.more fact there)

    -- what is asked for, and what is made, in other words
    pub makes_by : {made later : List (Sign × ℕ)} {before now : Derivation}
        → Makes program terms depth One OneMade made later before now
        → ((known : List Fact) (fact : Fact) → Other known fact → One known fact)
        → ((known : List Fact) (fact : Fact) → One known fact → Other known fact)
        → ((sign : Sign) (class : ℕ) → OtherMade sign class → OneMade sign class)
        → ((sign : Sign) (class : ℕ) → OneMade sign class → OtherMade sign class)
        → Makes program terms depth Other OtherMade made later before now
    makes_by step to from made_to made_from = record {
      more = step.more;
      grown = step.grown;
      limit = step.limit;
      went_on = step.went_on;
      stays = step.stays;
      only_made = λ sign class inside. ⊎_elim (λ old. inl old) (λ new. inr (made_from sign class new))
          (step.only_made sign class inside);
      only = λ list among asked objects begun. step.only list among (λ fact one. asked fact (from list fact one))
          (λ sign class object. objects sign class (made_from sign class object)) begun;
      all = λ going known among.
          let there = step.all going known among in
          (there.0, λ fact other. there.1 fact (to known fact other));
      makes = λ going sign class object. step.makes going sign class (made_to sign class object);
    }

  module _ {A : Type 0} (Asked : A → List Fact → Fact → Type 0) (Made : A → Sign → ℕ → Type 0) where
    -- nothing is asked for of the first no elements
    pub makes_each_none : {made : List (Sign × ℕ)} {before now : Derivation} (list : List A) → Adds Nothing before now
        → Makes program terms depth (Each Asked (take 0 list)) (EachMade Made (take 0 list)) made made before now
    makes_each_none list step = makes_by (makes_of_adds step)
        (λ known fact each. absurd (omega (arith, each.inside.1))) (λ known fact none. absurd none)
        (λ sign class each. absurd (omega (arith, each.inside.1))) (λ sign class none. absurd none)

    -- one element more
    pub makes_each_more : {made between_made later : List (Sign × ℕ)} {before between now : Derivation}
        (list : List A) (index : ℕ) (one : A) → index < length list → one ≡ get_or list index one
        → Makes program terms depth (Each Asked (take index list)) (EachMade Made (take index list)) made between_made
        before between
        → Makes program terms depth (Asked one) (Made one) between_made later between now
        → Makes program terms depth (Each Asked (take (index + 1) list)) (EachMade Made (take (index + 1) list))
        made later before now
    makes_each_more list index one within is first next =
        makes_by (makes_then first next)
        (λ known fact each. ⊎_elim
        (λ earlier. inl (record { one = each.one; inside = earlier; asked = each.asked }))
        (λ same. inr (subst (λ it. Asked it known fact) (sym same ∙ sym is) each.asked)) (cases each.one each.inside))
        (λ known fact either. ⊎_elim
        (λ each. record { one = each.one; inside = earlier_inside each.one each.inside; asked = each.asked })
        (λ asked. record { one = one; inside = last_inside; asked = asked }) either)
        (λ sign class each. ⊎_elim
        (λ earlier. inl (record { one = each.one; inside = earlier; made = each.made }))
        (λ same. inr (subst (λ it. Made it sign class) (sym same ∙ sym is) each.made)) (cases each.one each.inside))
        (λ sign class either. ⊎_elim
        (λ each. record { one = each.one; inside = earlier_inside each.one each.inside; made = each.made })
        (λ made. record { one = one; inside = last_inside; made = made }) either)
      where
        more_is : take (index + 1) list ≡ take index list ++ get_or list index one ∷ []
        more_is = take_more list index one within

        cases : (it : A) → Contains (take (index + 1) list) it
            → Contains (take index list) it ⊎ (get_or list index one ≡ it)
        cases it inside = Contains-push_cases (take index list) (get_or list index one) it
            (subst (λ part. Contains part it) more_is inside)

        earlier_inside : (it : A) → Contains (take index list) it → Contains (take (index + 1) list) it
        earlier_inside it inside = subst (λ part. Contains part it) (sym more_is)
            (Contains-append_left (take index list) (get_or list index one ∷ []) it inside)

        last_inside : Contains (take (index + 1) list) one
        last_inside = subst (λ it. Contains (take (index + 1) list) it) (sym is)
            (subst (λ part. Contains part (get_or list index one)) (sym more_is)
            (Contains-push (take index list) (get_or list index one)))

    -- all elements
    pub makes_each : {made later : List (Sign × ℕ)} {before now : Derivation} (list : List A) (index : ℕ)
        → length list ≤ index
        → Makes program terms depth (Each Asked (take index list)) (EachMade Made (take index list)) made later
        before now
        → Makes program terms depth (Each Asked list) (EachMade Made list) made later before now
    makes_each {made} {later} {before} {now} list index over step =
        subst (λ part. Makes program terms depth (Each Asked part) (EachMade Made part) made later before now)
        (take_all index list over) step

  module _ {A : Type 0} {There : A → Type 0} {Asked : A → List Fact → Fact → Type 0} {Made : A → Sign → ℕ → Type 0}
      {made later : List (Sign × ℕ)} {before between now : Derivation} where
    -- a step for each of what was found
    pub makes_found_each : {found : List A} → Finds (λ known. There) found before between
        → Makes program terms depth (Each Asked found) (EachMade Made found) made later between now
        → Makes program terms depth (ForThere (λ known. There) Asked) (ForThereMade There Made) made later before now
    makes_found_each finds step = record {
      more = step.more;
      grown = step.grown ∙ ap (λ list. list ++ step.more) finds.same;
      limit = step.limit ∙ finds.limit;
      went_on = λ going. finds.went_on (step.went_on going);
      stays = step.stays;
      only_made = λ sign class inside. ⊎_elim (λ old. inl old)
          (λ each. inr (record { one = each.one; there = finds.only each.one each.inside; made = each.made }))
          (step.only_made sign class inside);
      only = λ list among asked objects begun. step.only list
          (λ fact there. among fact (subst (λ facts. Contains facts fact) finds.same there))
          (λ fact each. asked fact (record {
            one = each.one;
            there = finds.only each.one each.inside;
            asked = each.asked;
          }))
          (λ sign class each. objects sign class (record {
            one = each.one;
            there = finds.only each.one each.inside;
            made = each.made;
          })) begun;
      all = λ going known among.
          let there = step.all going known
          (λ one there. subst (λ facts. Contains facts one) (sym finds.same) (among one there)) in (
            λ begun. there.0 (λ sign class inside fact begins. subst (λ facts. Contains facts fact) (sym finds.same)
                (begun sign class inside fact begins)),
            λ fact each. there.1 fact (record {
              one = each.one;
              inside = finds.all (step.went_on going) each.one each.there;
              asked = each.asked;
            }),
          );
      makes = λ going sign class each. step.makes going sign class (record {
        one = each.one;
        inside = finds.all (step.went_on going) each.one each.there;
        made = each.made;
      });
    }

    -- a loop over what was found
    pub makes_found : {list found : List A} {index : ℕ} → list ≡ found → length list ≤ index
        → Finds (λ known. There) found before between
        → Makes program terms depth (Each Asked (take index list)) (EachMade Made (take index list)) made later
        between now
        → Makes program terms depth (ForThere (λ known. There) Asked) (ForThereMade There Made) made later before now
    makes_found {list} {found} {index} same over finds step = makes_found_each finds
        (subst (λ items. Makes program terms depth (Each Asked items) (EachMade Made items) made later between now)
        same (makes_each Asked Made list index over step))
