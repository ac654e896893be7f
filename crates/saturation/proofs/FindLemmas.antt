-- Steps that find things, one after the other.
--
--   `finds_as`                 what is there in other words
--   `finds_then_more`          two steps, the second of which adds to what the first found
--   `AtomsSoFar`               the atoms of some facts were added
use Rattle.std.proofs.Common.{◌≡◌, ◌⊎◌, inl, inr, ⊎_elim, ℕ, ◌+◌, ◌<◌, ◌≤◌, List, [], ◌∷◌, ◌++◌, take, length, Contains, sym, subst, ◌∙◌}
use Rattle.std.specs.Prelude.{get_or, Some}
use Rattle.std.proofs.lemmas.List.{take_more, take_all}
use Rattle.std.proofs.lemmas.List.Elements.{Contains-append_left, Contains-push_cases, Contains-push}
use Rattle.contract_terms.specs.declared.fact.Atom.{Atom}
use Rattle.contract_terms.specs.declared.fact.Fact.{Fact}
use Rattle.saturation.specs.Steps.{GoesOn, Finds, atom_of, HasKey, Holding}
use Rattle.saturation.specs.declared.derivation.Derivation.{Derivation}
use Rattle.saturation.specs.declared.key.Key.{Key}

module _ {A : Type 0} {One Other : List Fact → A → Type 0} {found : List A} {before now : Derivation} where
  -- what is there in other words
  pub finds_as : Finds One found before now → ((one : A) → One before.facts one → Other before.facts one)
      → ((one : A) → Other before.facts one → One before.facts one) → Finds Other found before now
  finds_as step to from = record {
    same = step.same;
    limit = step.limit;
    went_on = step.went_on;
    only = λ one inside. to one (step.only one inside);
    all = λ going one there. step.all going one (from one there);
  }

-- two steps, the second of which adds to what the first found
pub finds_then_more : {A : Type 0} {One Other : List Fact → A → Type 0} {first both : List A}
    {before between now : Derivation} → Finds One first before between
    → Finds (λ facts one. Contains first one ⊎ Other facts one) both between now
    → Finds (λ facts one. One facts one ⊎ Other facts one) both before now
finds_then_more {A} {One} {Other} {first} {both} {before} {between} {now} step next = record {
  same = next.same ∙ step.same;
  limit = next.limit ∙ step.limit;
  went_on = λ going. step.went_on (next.went_on going);
  only = λ one inside. ⊎_elim (λ earlier. inl (step.only one earlier))
      (λ later. inr (subst (λ facts. Other facts one) step.same later)) (next.only one inside);
  all = λ going one there. next.all going one (⊎_elim (λ earlier. inl (step.all (next.went_on going) one earlier))
      (λ later. inr (subst (λ facts. Other facts one) (sym step.same) later)) there);
}

-- An atom is one of some, or one of the facts says that it is held or given.
pub data IsAtomOf (atoms : List Atom) (facts : List Fact) (atom : Atom) : Type 0 where
  older : Contains atoms atom → IsAtomOf atoms facts atom
  newer : (fact : Fact) → Contains facts fact → atom_of fact ≡ Some atom → IsAtomOf atoms facts atom

-- the atoms of the facts before an index were added to some atoms
abbrev pub AtomsSoFar : List Atom → List Fact → ℕ → List Atom → Derivation → Derivation → Type 0
AtomsSoFar atoms facts index now start end = Finds (λ known. IsAtomOf atoms (take index facts)) now start end

-- the atom of one more fact was added
pub atoms_step : {atoms between now : List Atom} (facts : List Fact) {index : ℕ} {start middle end : Derivation}
    (fact : Fact) → index < length facts → fact ≡ get_or facts index fact
    → AtomsSoFar atoms facts index between start middle
    → Finds (λ known atom. Contains between atom ⊎ (atom_of fact ≡ Some atom)) now middle end
    → AtomsSoFar atoms facts (index + 1) now start end
atoms_step {atoms} {between} {now} facts {index} fact within is so_far step =
    let more = take_more facts index fact within in
    let last : Contains (take (index + 1) facts) fact =
    subst (λ it. Contains (take (index + 1) facts) it) (sym is)
    (subst (λ part. Contains part (get_or facts index fact)) (sym more)
    (Contains-push (take index facts) (get_or facts index fact))) in
    finds_as (finds_then_more so_far step)
    (λ atom there. ⊎_elim (λ earlier. earlier_atom more earlier) (λ held. newer fact last held) there)
    (λ atom there. latest_atom more is there)
  where
    earlier_atom : {atom : Atom} → take (index + 1) facts ≡ take index facts ++ get_or facts index fact ∷ []
        → IsAtomOf atoms (take index facts) atom → IsAtomOf atoms (take (index + 1) facts) atom
    earlier_atom more (older there) = older there
    earlier_atom more (newer one there held) = newer one (subst (λ part. Contains part one) (sym more)
        (Contains-append_left (take index facts) (get_or facts index fact ∷ []) one there)) held

    latest_atom : {atom : Atom} → take (index + 1) facts ≡ take index facts ++ get_or facts index fact ∷ []
        → fact ≡ get_or facts index fact → IsAtomOf atoms (take (index + 1) facts) atom
        → IsAtomOf atoms (take index facts) atom ⊎ (atom_of fact ≡ Some atom)
    latest_atom more is (older there) = inl (older there)
    latest_atom {atom} more is (newer one there held) = ⊎_elim (λ earlier. inl (newer one earlier held))
        (λ same. inr (subst (λ it. atom_of it ≡ Some atom) (sym (is ∙ same)) held))
        (Contains-push_cases (take index facts) (get_or facts index fact) one
        (subst (λ part. Contains part one) more there))

-- the atoms of all facts with a key were added
pub atoms_done : {atoms now : List Atom} {facts found : List Fact} {index : ℕ} {key : Key}
    {before middle end : Derivation} → facts ≡ found → Finds (HasKey key) found before middle → length facts ≤ index → AtomsSoFar atoms facts index now middle end
    → Finds (λ known atom. Contains atoms atom ⊎ Holding key known atom) now before end
atoms_done {atoms} {now} {facts} {found} {index} {key} {before} {middle} {end} same finds over so_far = record {
  same = so_far.same ∙ finds.same;
  limit = so_far.limit ∙ finds.limit;
  went_on = λ going. finds.went_on (so_far.went_on going);
  only = λ atom inside. from (so_far.only atom inside);
  all = λ going atom there. so_far.all going atom (to (so_far.went_on going) there);
}
  where
    from : {atom : Atom} → IsAtomOf atoms (take index facts) atom
        → Contains atoms atom ⊎ Holding key before.facts atom
    from (older there) = inl there
    from (newer fact there held) = inr (record {
      fact = fact;
      there = finds.only fact (subst (λ part. Contains part fact) (take_all index facts over ∙ same) there);
      holds = held;
    })

    to : {atom : Atom} → GoesOn middle → Contains atoms atom ⊎ Holding key before.facts atom
        → IsAtomOf atoms (take index facts) atom
    to going (inl there) = older there
    to going (inr holding) = newer holding.fact
        (subst (λ part. Contains part holding.fact) (sym (take_all index facts over ∙ same))
        (finds.all going holding.fact holding.there)) holding.holds

-- one thing was added to others
pub finds_one : {A : Type 0} (items : List A) {now : List A} {start end : Derivation} (new : A) (Other : A → Type 0)
    → Finds (λ known one. Contains items one ⊎ (new ≡ one)) now start end
    → ((one : A) → new ≡ one → Other one) → ((one : A) → Other one → new ≡ one)
    → Finds (λ known one. Contains items one ⊎ Other one) now start end
finds_one items new Other step to from = finds_as step
    (λ one there. ⊎_elim (λ older. inl older) (λ same. inr (to one same)) there)
    (λ one there. ⊎_elim (λ older. inl older) (λ other. inr (from one other)) there)
