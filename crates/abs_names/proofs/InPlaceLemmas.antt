-- A list whose items are changed one by one, from the first on: each has a tree, what that becomes, and its offences.
use Rattle.std.proofs.Common.{◌≡◌, ℕ, ◌+◌, ◌<◌, ◌≤◌, List, [], ◌∷◌, ◌++◌, sym, ap, ◌∙◌, subst, length, get_or, take, drop, set, map, fold, append_assoc, arith}
use Rattle.std.specs.Prelude.{Option}
use Rattle.std.proofs.lemmas.List.{map-append, append-nil, take_all, drop_all}
use Rattle.std.proofs.lemmas.List.Sums.{fold-append}
use Rattle.abs_tree.specs.Offences.{earlier}
use Rattle.abs_tree.specs.declared.refusal.Offence.{Offence}
use Rattle.list_facts.proofs.InPlaceLemmas.{InPlace, one_changed}

-- How the items of a list are resolved, in a context that stays the same. A count may go on from one item to the next.
-- An item has a tree before and after. One tree, and all trees, have their resolved trees and their offences. The laws
-- say that those of all trees are those of the first one and of the others.
pub record ItemResolution (A T C : Type 0) : Type 0 where
  pub before : C → A → T
  pub after : C → A → T
  pub resolved : C → ℕ → T → T
  pub all_resolved : C → ℕ → List T → List T
  pub offences : C → ℕ → T → List Offence
  pub all_offences : C → ℕ → List T → List Offence
  pub next : C → ℕ → T → ℕ
  pub none_resolved : (c : C) (n : ℕ) → all_resolved c n [] ≡ []
  pub more_resolved : (c : C) (n : ℕ) (t : T) (ts : List T)
      → all_resolved c n (t ∷ ts) ≡ resolved c n t ∷ all_resolved c (next c n t) ts
  pub none_offend : (c : C) (n : ℕ) → all_offences c n [] ≡ []
  pub more_offend : (c : C) (n : ℕ) (t : T) (ts : List T)
      → all_offences c n (t ∷ ts) ≡ offences c n t ++ all_offences c (next c n t) ts

-- The items before an index were resolved, and the others are as before.
pub record ChangedSoFar {A T C : Type 0} (how : ItemResolution A T C) (start : C) (begin : ℕ) (first : Option Offence)
    (items : List A) (index : ℕ) (now : List A) (context : C) (count : ℕ) (noted : Option Offence) : Type 0 where
  pub in_place : InPlace items index now
  pub same : context ≡ start
  pub resolved : map (how.after start) (take index now)
      ++ how.all_resolved start count (map (how.before start) (drop index items))
      ≡ how.all_resolved start begin (map (how.before start) items)
  pub offences : fold earlier noted (how.all_offences start count (map (how.before start) (drop index items)))
      ≡ fold earlier first (how.all_offences start begin (map (how.before start) items))

-- one more item was resolved
pub changed_step : {A T C : Type 0} {how : ItemResolution A T C} {start : C} {begin : ℕ} {first : Option Offence}
    {items : List A} {index : ℕ} {now later : List A} {context later_context : C} {count later_count : ℕ}
    {noted later_noted : Option Offence} (item one : A)
    → ChangedSoFar how start begin first items index now context count noted → index < length now
    → item ≡ get_or now index item → later ≡ set now index one
    → how.after context one ≡ how.resolved context count (how.before context item)
    → later_noted ≡ fold earlier noted (how.offences context count (how.before context item))
    → later_count ≡ how.next context count (how.before context item) → later_context ≡ context
    → ChangedSoFar how start begin first items (index + 1) later later_context later_count later_noted
changed_step {A} {T} {C} {how} {start} {begin} {first} {items} {index} {now} {later} {context} {later_context} {count}
    {later_count} {noted} {later_noted} item one h there is added make meet counted same =
    let step = one_changed item one h.in_place there is added in
    let tree = how.before start item in
    let made : how.after start one ≡ how.resolved start count tree =
    subst (λ (c : C). how.after c one ≡ how.resolved c count (how.before c item)) h.same make in
    let met : later_noted ≡ fold earlier noted (how.offences start count tree) =
    subst (λ (c : C). later_noted ≡ fold earlier noted (how.offences c count (how.before c item))) h.same meet in
    let counts : later_count ≡ how.next start count tree =
    subst (λ (c : C). later_count ≡ how.next c count (how.before c item)) h.same counted in
    let front = map (how.after start) (take index now) in
    let trees = map (how.before start) in
    let others = trees (drop (index + 1) items) in
    record {
      in_place = step.in_place;
      same = same ∙ h.same;
      resolved = ap (λ (xs : List A). map (how.after start) xs ++ how.all_resolved start later_count others)
          step.changed
          ∙ (ap (λ (ts : List T). ts ++ how.all_resolved start later_count others)
          (map-append (how.after start) (take index now) (one ∷ []))
          ∙ (append_assoc front (how.after start one ∷ []) (how.all_resolved start later_count others)
          ∙ (ap (λ (t : T). front ++ t ∷ how.all_resolved start later_count others) made
          ∙ (ap (λ (n : ℕ). front ++ how.resolved start count tree ∷ how.all_resolved start n others) counts
          ∙ (ap (λ (ts : List T). front ++ ts) (sym (how.more_resolved start count tree others))
          ∙ (ap (λ (xs : List A). front ++ how.all_resolved start count (trees xs)) (sym step.split) ∙ h.resolved))))));
      offences = ap (λ (o : Option Offence). fold earlier o (how.all_offences start later_count others)) met
          ∙ (sym (fold-append earlier noted (how.offences start count tree) (how.all_offences start later_count others))
          ∙ (ap (λ (n : ℕ). fold earlier noted (how.offences start count tree ++ how.all_offences start n others))
          counts
          ∙ (ap (fold earlier noted) (sym (how.more_offend start count tree others))
          ∙ (ap (λ (xs : List A). fold earlier noted (how.all_offences start count (trees xs))) (sym step.split)
          ∙ h.offences))));
    }

-- All items were resolved.
pub record Changed {A T C : Type 0} (how : ItemResolution A T C) (start : C) (begin : ℕ) (first : Option Offence)
    (items now : List A) (noted : Option Offence) : Type 0 where
  pub resolved : map (how.after start) now ≡ how.all_resolved start begin (map (how.before start) items)
  pub offences : noted ≡ fold earlier first (how.all_offences start begin (map (how.before start) items))

pub changed_done : {A T C : Type 0} {how : ItemResolution A T C} {start : C} {begin : ℕ} {first : Option Offence}
    {items : List A} {index : ℕ} {now : List A} {context : C} {count : ℕ} {noted : Option Offence}
    → ChangedSoFar how start begin first items index now context count noted → length now ≤ index
    → Changed how start begin first items now noted
changed_done {A} {T} {C} {how} {start} {begin} {first} {items} {index} {now} {context} {count} {noted} h over =
    let tree = how.after start in
    let none = sym (drop_all index items (omega (arith, h.in_place.same_length, over))) in
    record {
      resolved = sym (append-nil (map tree now))
          ∙ (ap (λ (xs : List A). map tree xs ++ []) (sym (take_all index now over))
          ∙ (ap (λ (ts : List T). map tree (take index now) ++ ts) (sym (how.none_resolved start count))
          ∙ (ap (λ (xs : List A). map tree (take index now) ++ how.all_resolved start count (map (how.before start) xs))
          none
          ∙ h.resolved)));
      offences = ap (fold earlier noted) (sym (how.none_offend start count))
          ∙ (ap (λ (xs : List A). fold earlier noted (how.all_offences start count (map (how.before start) xs))) none
          ∙ h.offences);
    }
