-- Steps that add facts, one after the other, in loops, and after what was found.
--
--   `adds_nothing`, `adds_none`        a step that changes nothing, and where nothing is asked for
--   `adds_then`                two steps
--   `adds_as`                  what is asked for in other words
--   `adds_each_none`, `adds_each_more`, `adds_each`        a loop: at its start, one turn, at its end
--   `finds_then`               a step for each of what was found
use Rattle.std.proofs.Common.{◌≡◌, inl, inr, ⊎_elim, ℕ, ◌+◌, ◌<◌, ◌≤◌, List, [], ◌∷◌, ◌++◌, take, length, Contains, refl, sym, ap, subst, arith, ◌∙◌}
use Rattle.std.specs.Prelude.{get_or, Some}
use Rattle.std.proofs.lemmas.Option.{same_Some}
use Rattle.std.proofs.lemmas.List.{append-nil, append_assoc, take_more, take_all}
use Rattle.std.proofs.lemmas.List.Elements.{Contains-append_left, Contains-push_cases, Contains-push}
use Rattle.contract_terms.specs.declared.fact.Fact.{Fact}
use Rattle.saturation.specs.Steps.{GoesOn, AreAmong, Adds, Nothing, Just, Either, Each, ForThere, Finds}
use Rattle.saturation.specs.declared.derivation.Derivation.{Derivation}

-- a step that changes nothing adds nothing
pub adds_nothing : (before now : Derivation) → now ≡ before → Adds Nothing before now
adds_nothing before now is = subst (λ (end : Derivation). Adds Nothing before end) (sym is) (record {
  more = [];
  grown = sym (append-nil before.facts);
  limit = refl;
  went_on = λ going. going;
  only = λ list among asked. among;
  all = λ going known among fact none. absurd none;
})

-- a step after which the work does not go on adds nothing, whatever is asked for
pub adds_ended : {Asked : List Fact → Fact → Type 0} (before now : Derivation) → now.facts ≡ before.facts
    → now.limit ≡ before.limit → (GoesOn now → ⊥) → Adds Asked before now
adds_ended before now same limit ended = record {
  more = [];
  grown = same ∙ sym (append-nil before.facts);
  limit = limit;
  went_on = λ going. absurd (ended going);
  only = λ list among asked fact there. among fact (subst (λ facts. Contains facts fact) same there);
  all = λ going known among fact asked. absurd (ended going);
}

-- an ended step is one of any kind
pub adds_any : {Asked : List Fact → Fact → Type 0} {before now : Derivation} → Adds Nothing before now
    → (GoesOn now → ⊥) → Adds Asked before now
adds_any step ended = record {
  more = step.more;
  grown = step.grown;
  limit = step.limit;
  went_on = step.went_on;
  only = λ list among asked. step.only list among (λ fact none. absurd none);
  all = λ going known among fact asked. absurd (ended going);
}

-- a fact is added at the end
pub adds_fact : (one : Fact) (before now : Derivation) → now.facts ≡ before.facts ++ one ∷ []
    → now.limit ≡ before.limit → (GoesOn now → GoesOn before) → Adds (Just (Some one)) before now
adds_fact one before now grown limit went_on = record {
  more = one ∷ [];
  grown = grown;
  limit = limit;
  went_on = went_on;
  only = λ list among asked fact there. ⊎_elim (λ earlier. among fact earlier) (λ same. asked fact (ap Some same))
      (Contains-push_cases before.facts one fact (subst (λ facts. Contains facts fact) grown there));
  all = λ going known among fact asked. subst (λ facts. Contains facts fact) (sym grown)
      (subst (λ it. Contains (before.facts ++ one ∷ []) it) (same_Some one fact asked) (Contains-push before.facts one));
}

-- a fact that is there already is not added again
pub adds_known : (one : Fact) (before now : Derivation) → Contains before.facts one → now.facts ≡ before.facts
    → now.limit ≡ before.limit → (GoesOn now → GoesOn before) → Adds (Just (Some one)) before now
adds_known one before now there same limit went_on = record {
  more = [];
  grown = same ∙ sym (append-nil before.facts);
  limit = limit;
  went_on = went_on;
  only = λ list among asked fact inside. among fact (subst (λ facts. Contains facts fact) same inside);
  all = λ going known among fact asked. subst (λ facts. Contains facts fact) (sym same)
      (subst (λ it. Contains before.facts it) (same_Some one fact asked) there);
}

-- the facts are there after a step
pub stays : {Asked : List Fact → Fact → Type 0} {before now : Derivation} → Adds Asked before now
    → AreAmong before.facts now.facts
stays {Asked} {before} {now} step fact there = subst (λ list. Contains list fact) (sym step.grown)
    (Contains-append_left before.facts step.more fact there)

module _ {One Other : List Fact → Fact → Type 0} {before between now : Derivation} where
  -- two steps add what is asked for of one of them
  pub adds_then : Adds One before between → Adds Other between now → Adds (Either One Other) before now
  adds_then first next = record {
    more = first.more ++ next.more;
    grown = next.grown ∙ ap (λ list. list ++ next.more) first.grown ∙ append_assoc before.facts first.more next.more;
    limit = next.limit ∙ first.limit;
    went_on = λ going. first.went_on (next.went_on going);
    only = λ list among asked. next.only list
        (first.only list among (λ fact one. asked fact (inl one))) (λ fact other. asked fact (inr other));
    all = λ going known among fact asked. ⊎_elim
        (λ one. stays next fact (first.all (next.went_on going) known among fact one))
        (λ other. next.all going known (λ each there. stays first each (among each there)) fact other)
        asked;
  }

module _ {One Other : List Fact → Fact → Type 0} {before now : Derivation} where
  -- what is asked for in other words
  pub adds_as : Adds One before now
      → (GoesOn now → (known : List Fact) → AreAmong known before.facts → (fact : Fact) → Other known fact
      → One known fact)
      → ((list : List Fact) → AreAmong before.facts list → (fact : Fact) → One list fact → Other list fact)
      → Adds Other before now
  adds_as step to from = record {
    more = step.more;
    grown = step.grown;
    limit = step.limit;
    went_on = step.went_on;
    only = λ list among asked. step.only list among (λ fact one. asked fact (from list among fact one));
    all = λ going known among fact other. step.all going known among fact (to going known among fact other);
  }

  -- what is asked for in other words, of any facts
  pub adds_by : Adds One before now → ((known : List Fact) (fact : Fact) → Other known fact → One known fact)
      → ((known : List Fact) (fact : Fact) → One known fact → Other known fact) → Adds Other before now
  adds_by step to from = adds_as step (λ going known among. to known) (λ list among. from list)

module _ {A : Type 0} (Asked : A → List Fact → Fact → Type 0) where
  -- nothing is asked for of the first no elements
  pub adds_each_none : {before now : Derivation} (list : List A) → Adds Nothing before now
      → Adds (Each Asked (take 0 list)) before now
  adds_each_none list step =
      adds_by step (λ known fact each. absurd (omega (arith, each.inside.1))) (λ known fact none. absurd none)

  -- one element more
  pub adds_each_more : {before between now : Derivation} (list : List A) (index : ℕ) (one : A)
      → index < length list → one ≡ get_or list index one
      → Adds (Each Asked (take index list)) before between → Adds (Asked one) between now
      → Adds (Each Asked (take (index + 1) list)) before now
  adds_each_more list index one within is first next =
      let more = take_more list index one within in
      adds_by (adds_then first next)
      (λ known fact each. ⊎_elim
      (λ earlier. inl (record { one = each.one; inside = earlier; asked = each.asked }))
      (λ same. inr (subst (λ it. Asked it known fact) (sym same ∙ sym is) each.asked))
      (Contains-push_cases (take index list) (get_or list index one) each.one
      (subst (λ part. Contains part each.one) more each.inside)))
      (λ known fact either. ⊎_elim
      (λ each. record {
        one = each.one;
        inside = subst (λ part. Contains part each.one) (sym more)
            (Contains-append_left (take index list) (get_or list index one ∷ []) each.one each.inside);
        asked = each.asked;
      })
      (λ asked. record {
        one = one;
        inside = subst (λ it. Contains (take (index + 1) list) it) (sym is)
            (subst (λ part. Contains part (get_or list index one)) (sym more)
            (Contains-push (take index list) (get_or list index one)));
        asked = asked;
      })
      either)

  -- all elements
  pub adds_each : {before now : Derivation} (list : List A) (index : ℕ) → length list ≤ index
      → Adds (Each Asked (take index list)) before now → Adds (Each Asked list) before now
  adds_each {before} {now} list index over step =
      subst (λ part. Adds (Each Asked part) before now) (take_all index list over) step

module _ {A : Type 0} {There : List Fact → A → Type 0} {Asked : A → List Fact → Fact → Type 0} {found : List A}
    {before between now : Derivation} where
  -- a step for each of what was found
  pub finds_then : ((some others : List Fact) → AreAmong some others → (one : A) → There some one → There others one)
      → Finds There found before between → Adds (Each Asked found) between now
      → Adds (ForThere There Asked) before now
  finds_then grows finds step = record {
    more = step.more;
    grown = step.grown ∙ ap (λ list. list ++ step.more) finds.same;
    limit = step.limit ∙ finds.limit;
    went_on = λ going. finds.went_on (step.went_on going);
    only = λ list among asked. step.only list
        (λ fact there. among fact (subst (λ facts. Contains facts fact) finds.same there))
        (λ fact each. asked fact (record {
          one = each.one;
          there = grows before.facts list among each.one (finds.only each.one each.inside);
          asked = each.asked;
        }));
    all = λ going known among fact each. step.all going known
        (λ one there. subst (λ facts. Contains facts one) (sym finds.same) (among one there)) fact
        (record {
          one = each.one;
          inside = finds.all (step.went_on going) each.one (grows known before.facts among each.one each.there);
          asked = each.asked;
        });
  }

-- a step after which the work does not go on finds what it found
pub finds_ended : {A : Type 0} {There : List Fact → A → Type 0} {found : List A} {before now : Derivation}
    → Adds Nothing before now → (GoesOn now → ⊥) → now.facts ≡ before.facts
    → ((one : A) → Contains found one → There before.facts one) → Finds There found before now
finds_ended step ended same only = record {
  same = same;
  limit = step.limit;
  went_on = step.went_on;
  only = only;
  all = λ going one there. absurd (ended going);
}

-- a loop over what was found
pub adds_found : {A : Type 0} {There : List Fact → A → Type 0} {Asked : A → List Fact → Fact → Type 0}
    {list found : List A} {index : ℕ} {before between now : Derivation} → list ≡ found → length list ≤ index
    → ((some others : List Fact) → AreAmong some others → (one : A) → There some one → There others one)
    → Finds There found before between → Adds (Each Asked (take index list)) between now
    → Adds (ForThere There Asked) before now
adds_found {A} {There} {Asked} {list} {found} {index} {before} {between} {now} same over grows finds step =
    finds_then grows finds
    (subst (λ items. Adds (Each Asked items) between now) same (adds_each Asked list index over step))

-- a step that changes nothing, where nothing is asked for
pub adds_none : {Asked : List Fact → Fact → Type 0} (before : Derivation)
    → ((known : List Fact) (fact : Fact) → Asked known fact → ⊥) → Adds Asked before before
adds_none before none = adds_by (adds_nothing before before refl) none (λ known fact no. absurd no)
