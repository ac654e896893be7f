-- What a walk knows after one step and then another, and after a loop.
use Rattle.std.proofs.Common.{◌≡◌, ⊎_elim, ℕ, ◌+◌, ◌<◌, ◌≤◌, Bool, true, false, not, ◌&&◌, ◌||◌, List, [], ◌∷◌, ◌++◌, length, get_or, take, refl, sym, ap, ◌∙◌, subst, append_assoc}
use Rattle.std.proofs.Math.Path.{fun_ext}
use Rattle.std.proofs.lemmas.Bool.{cases_Bool, cond-true, cond-false, eqb-true}
use Rattle.std.proofs.lemmas.List.{append-nil, take_all, take_more}
use Rattle.std.specs.Prelude.{nat_eq}
use Rattle.abs_program.specs.Flows.{Slots}
use Rattle.contract_terms.specs.Settled.{once_among, without}
use Rattle.contract_infer.proofs.SettledEffectLemmas.{among-append}
use Rattle.contract_infer.specs.SettledWalk.{added, among, cleared, known_by, minus, Does, Known, Takes}
use Rattle.contract_infer.specs.declared.settled.Walk.{Walk}

-- what is in neither of two sets, and what is in one of them
and_not_or : (test one other : Bool) → ((test && not one) && not other) ≡ (test && not (one || other))
and_not_or true true other = refl
and_not_or true false other = refl
and_not_or false one other = refl

or_or : (test one other : Bool) → ((test || one) || other) ≡ (test || (one || other))
or_or true one other = refl
or_or false one other = refl

-- a test and true is the test
pub and-true : (test : Bool) → (test && true) ≡ test
and-true true = refl
and-true false = refl

-- two states are the same if the same slots are settled and the rows are the same
pub known_same : (one other : Known) → ((slot : ℕ) → one.slots slot ≡ other.slots slot) → one.rows ≡ other.rows
    → one ≡ other
known_same one other slots_are rows_are =
    ap (λ (slots : Slots). record { slots = slots; rows = one.rows }) (fun_ext slots_are)
    ∙ ap (λ (rows : List (List ℕ)). record { slots = other.slots; rows = rows }) rows_are

-- a walk that is as before did nothing
pub does_nothing : (change : Known → Known) (walk : Walk) → change (known_by walk) ≡ known_by walk
    → Does change walk walk
does_nothing change walk same = record { does = λ well. (well, sym same) }

-- what a walk did is also what gives the same
pub does_as : {one other : Known → Known} {old new : Walk} → ((known : Known) → one known ≡ other known)
    → Does one old new → Does other old new
does_as {one} {other} {old} {new} same done = record {
  does = λ well. let both = done.does well in (both.0, both.1 ∙ same (known_by old));
}

-- a walk did one thing and then another
pub does_both : {one other : Known → Known} {old mid new : Walk} → Does one old mid → Does other mid new
    → Does (λ known. other (one known)) old new
does_both {one} {other} {old} {mid} {new} first second = record {
  does = λ well.
      let later = second.does well in
      let earlier = first.does later.0 in
      (earlier.0, later.1 ∙ ap other earlier.1);
}

-- both together are what gives the same
pub does_both_as : {one other all : Known → Known} {old mid new : Walk}
    → ((known : Known) → other (one known) ≡ all known) → Does one old mid → Does other mid new → Does all old new
does_both_as {one} {other} {all} same first second = does_as same (does_both first second)

-- What is done for items one by one: nothing for none, and the first one before the others.
pub record IsLoop {A : Type 0} (change : List A → Known → Known) (one : A → Known → Known) : Type 0 where
  pub none : (known : Known) → change [] known ≡ known
  pub next : (item : A) (others : List A) (known : Known)
      → change (item ∷ others) known ≡ change others (one item known)

-- one more item comes after those before it
change-append : {A : Type 0} {change : List A → Known → Known} {one : A → Known → Known} → IsLoop change one
    → (items : List A) (item : A) (known : Known)
    → one item (change items known) ≡ change (items ++ item ∷ []) known
change-append {A} {change} {one} loop [] item known =
    ap (one item) (loop.none known) ∙ (sym (loop.none (one item known)) ∙ sym (loop.next item [] known))
change-append {A} {change} {one} loop (first ∷ others) item known =
    ap (one item) (loop.next first others known)
    ∙ (change-append loop others item (one first known) ∙ sym (loop.next first (others ++ item ∷ []) known))

-- before the first item nothing is done
pub loop_begins : {A : Type 0} {change : List A → Known → Known} {one : A → Known → Known} → IsLoop change one
    → (walk : Walk) → Does (change []) walk walk
loop_begins {A} {change} loop walk = does_nothing (change []) walk (loop.none (known_by walk))

-- the items up to one, and that one
pub take_item : {A : Type 0} (items : List A) (index : ℕ) (item : A) → index < length items
    → item ≡ get_or items index item → take index items ++ item ∷ [] ≡ take (index + 1) items
take_item {A} items index item there is =
    ap (λ (found : A). take index items ++ found ∷ []) is ∙ sym (take_more items index item there)

-- one more item is done
pub loop_goes_on : {A : Type 0} {change : List A → Known → Known} {one : A → Known → Known} {old now after : Walk}
    → IsLoop change one → (items : List A) (index : ℕ) (item : A) → index < length items
    → item ≡ get_or items index item → Does (change (take index items)) old now → Does (one item) now after
    → Does (change (take (index + 1) items)) old after
loop_goes_on {A} {change} {one} {old} {now} {after} loop items index item there is before done =
    does_both_as
    (λ known. change-append loop (take index items) item known
    ∙ ap (λ (done_now : List A). change done_now known) (take_item items index item there is))
    before done

-- all items are done
pub loop_ends : {A : Type 0} {old now : Walk} (change : List A → Known → Known) (items : List A) (index : ℕ)
    → length items ≤ index → Does (change (take index items)) old now → Does (change items) old now
loop_ends {A} {old} {now} change items index over done =
    subst (λ (done_now : List A). Does (change done_now) old now) (take_all index items over) done

-- slots made unsettled one after the other
pub cleared_both : (one other : Slots) (known : Known)
    → cleared other (cleared one known) ≡ cleared (λ slot. one slot || other slot) known
cleared_both one other known =
    known_same _ _ (λ slot. and_not_or (known.slots slot) (one slot) (other slot)) refl

-- slots made settled one after the other
pub added_both : (one other : Slots) (known : Known)
    → added other (added one known) ≡ added (λ slot. one slot || other slot) known
added_both one other known = known_same _ _ (λ slot. or_or (known.slots slot) (one slot) (other slot)) refl

-- a set without the slots of no list, and without those of a longer one
minus-none : (fact : Slots) → minus fact (among []) ≡ fact
minus-none fact = fun_ext (λ slot. and-true (fact slot))

minus-first : (fact : Slots) (first : ℕ) (others : List ℕ)
    → minus (without fact first) (among others) ≡ minus fact (among (first ∷ others))
minus-first fact first others = fun_ext (λ slot. and_not_or (fact slot) (nat_eq first slot) (among others slot))

-- a slot that is in no set need not be taken out of it
without-absent : (fact : Slots) (gone : ℕ) → fact gone ≡ false → without fact gone ≡ fact
without-absent fact gone absent = fun_ext (λ slot.
    ⊎_elim
    (λ same. rw (same, ← eqb-true gone slot same, absent) refl)
    (λ differs. rw differs (and-true (fact slot)))
    (cases_Bool (nat_eq gone slot)))

-- a slot that is in the set comes first, and others are taken without it
once_among-there : (fact : Slots) (slot : ℕ) (others : List ℕ) → fact slot ≡ true
    → once_among fact (slot ∷ others) ≡ slot ∷ once_among (without fact slot) others
unfolding once_among
once_among-there fact slot others there =
    cond-true (fact slot) (slot ∷ once_among (without fact slot) others) (once_among fact others) there

-- one that is not is left out
once_among-absent : (fact : Slots) (slot : ℕ) (others : List ℕ) → fact slot ≡ false
    → once_among fact (slot ∷ others) ≡ once_among fact others
unfolding once_among
once_among-absent fact slot others absent =
    cond-false (fact slot) (slot ∷ once_among (without fact slot) others) (once_among fact others) absent

-- those of no list
pub once_among-none : (fact : Slots) → once_among fact [] ≡ []
unfolding once_among
once_among-none fact = refl

-- the slots of two lists that are in a set: those of the second without those of the first
once_among-append : (fact : Slots) (one other : List ℕ)
    → once_among fact (one ++ other) ≡ once_among fact one ++ once_among (minus fact (among one)) other
once_among-append fact [] other =
    rw (once_among-none fact, minus-none fact) refl
once_among-append fact (slot ∷ others) other =
    ⊎_elim
    (λ there.
    once_among-there fact slot (others ++ other) there
    ∙ (ap (λ (rest : List ℕ). slot ∷ rest) (once_among-append (without fact slot) others other)
    ∙ (ap (λ (set : Slots). slot ∷ (once_among (without fact slot) others ++ once_among set other))
    (minus-first fact slot others)
    ∙ ap (λ (rest : List ℕ). rest ++ once_among (minus fact (among (slot ∷ others))) other)
    (sym (once_among-there fact slot others there)))))
    (λ absent.
    once_among-absent fact slot (others ++ other) absent
    ∙ (once_among-append fact others other
    ∙ (ap (λ (set : Slots). once_among fact others ++ once_among set other)
    (ap (λ (set : Slots). minus set (among others)) (sym (without-absent fact slot absent))
    ∙ minus-first fact slot others)
    ∙ ap (λ (rest : List ℕ). rest ++ once_among (minus fact (among (slot ∷ others))) other)
    (sym (once_among-absent fact slot others absent)))))
    (cases_Bool (fact slot))

-- no slot is taken
pub takes_none : (walk : Walk) (row : List ℕ) → Takes [] walk walk row row
takes_none walk row = record {
  does = does_nothing (cleared (among [])) walk (known_same _ _ (λ slot. and-true ((known_by walk).slots slot)) refl);
  adds = λ well. sym (ap (λ (rest : List ℕ). row ++ rest) (once_among-none (known_by walk).slots) ∙ append-nil row);
}

-- a slot that is not settled is not taken
pub takes_absent : (walk : Walk) (slot : ℕ) (row : List ℕ) → (known_by walk).slots slot ≡ false
    → Takes (slot ∷ []) walk walk row row
takes_absent walk slot row absent =
    let fact = (known_by walk).slots in
    record {
      does =
          does_nothing (cleared (among (slot ∷ []))) walk
          (ap (λ (slots : Slots). record { slots = slots; rows = (known_by walk).rows })
          (sym (minus-first fact slot []) ∙ (minus-none (without fact slot) ∙ without-absent fact slot absent)));
      adds = λ well.
          sym (ap (λ (rest : List ℕ). row ++ rest)
          (once_among-absent fact slot [] absent ∙ once_among-none fact) ∙ append-nil row);
    }

-- one that is settled is
pub takes_there : {old new : Walk} {slot : ℕ} {row after : List ℕ} → (known_by old).slots slot ≡ true
    → Does (cleared (among (slot ∷ []))) old new → after ≡ row ++ slot ∷ [] → Takes (slot ∷ []) old new row after
takes_there {old} {new} {slot} {row} {after} there done added = record {
  does = done;
  adds = λ well.
      let fact = (known_by old).slots in
      added ∙ ap (λ (rest : List ℕ). row ++ rest)
      (sym (once_among-there fact slot [] there
      ∙ ap (λ (rest : List ℕ). slot ∷ rest) (once_among-none (without fact slot))));
}

-- slots are taken, and then others
pub takes_both : {one other : List ℕ} {old mid new : Walk} {row more after : List ℕ} → Takes one old mid row more
    → Takes other mid new more after → Takes (one ++ other) old new row after
takes_both {one} {other} {old} {mid} {new} {row} {more} {after} first second = record {
  does =
      does_both_as
      (λ known. cleared_both (among one) (among other) known
      ∙ ap (λ (gone : Slots). cleared gone known) (fun_ext (λ slot. sym (among-append one other slot))))
      first.does second.does;
  adds = λ well.
      let later = second.does.does well in
      let earlier = first.does.does later.0 in
      let before = (known_by old).slots in
      second.adds well
      ∙ (ap (λ (so_far : List ℕ). so_far ++ once_among (known_by mid).slots other) (first.adds later.0)
      ∙ (append_assoc row (once_among before one) (once_among (known_by mid).slots other)
      ∙ ap (λ (rest : List ℕ). row ++ rest)
      (ap (λ (known : Known). once_among before one ++ once_among known.slots other) earlier.1
      ∙ sym (once_among-append before one other))));
}

-- slots that are the same list are taken
pub takes_same : {one other : List ℕ} {old new : Walk} {row after : List ℕ} → one ≡ other
    → Takes one old new row after → Takes other old new row after
takes_same {one} {other} {old} {new} {row} {after} same takes =
    subst (λ (slots : List ℕ). Takes slots old new row after) same takes
