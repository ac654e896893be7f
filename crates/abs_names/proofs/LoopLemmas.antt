-- A list of trees of which a prefix was resolved. Each is resolved in some state, which may change from one to the
-- next, and its offences are noted.
use Rattle.std.proofs.Common.{◌≡◌, ℕ, ◌+◌, ◌<◌, ◌≤◌, List, [], ◌∷◌, ◌++◌, sym, ap, ◌∙◌, length, get_or, drop, fold}
use Rattle.std.specs.Prelude.{Option}
use Rattle.std.proofs.lemmas.List.{drop_all}
use Rattle.std.proofs.lemmas.List.Sums.{fold-append}
use Rattle.abs_tree.specs.Offences.{earlier}
use Rattle.abs_tree.specs.declared.refusal.Offence.{Offence}
use Rattle.list_facts.proofs.EntryLemmas.{drop_item}

-- The items before an index were resolved, from a start on; this is the state now, and the first offence so far.
-- `trees` are the trees of items, `before` puts them before other trees, `made` and `met` are the resolved trees and
-- the offences from a state on, and `last` is the state after them.
pub record SoFar {A T S : Type 0} (trees : List A → T) (before : List A → T → T) (made : S → T → T)
    (met : S → T → List Offence) (last : S → T → S) (start : S) (first : Option Offence) (items : List A) (index : ℕ)
    (found : List A) (now : S) (noted : Option Offence) : Type 0 where
  pub resolved : before found (made now (trees (drop index items))) ≡ made start (trees items)
  pub offences : fold earlier noted (met now (trees (drop index items)))
      ≡ fold earlier first (met start (trees items))
  pub ends : last now (trees (drop index items)) ≡ last start (trees items)

-- one more item was resolved, which is the first of those that are left
pub one_more_left : {A T S : Type 0} {trees : List A → T} {before : List A → T → T} {made : S → T → T}
    {met : S → T → List Offence} {last : S → T → S} {start : S} {first : Option Offence} {items : List A} {index : ℕ}
    {found : List A} {now : S} {noted : Option Offence} (all : List A) (later : S) (after : Option Offence) (item : A)
    (next : T → T) (offences : List Offence)
    → SoFar trees before made met last start first items index found now noted
    → drop index items ≡ item ∷ drop (index + 1) items
    → ((others : List A) → made now (trees (item ∷ others)) ≡ next (made later (trees others)))
    → ((others : List A) → met now (trees (item ∷ others)) ≡ offences ++ met later (trees others))
    → ((others : List A) → last now (trees (item ∷ others)) ≡ last later (trees others))
    → ((rest : T) → before all rest ≡ before found (next rest)) → after ≡ fold earlier noted offences
    → SoFar trees before made met last start first items (index + 1) all later after
one_more_left {A} {T} {S} {trees} {before} {made} {met} {last} {start} {first} {items} {index} {found} {now} {noted} all
    later after item next offences so_far split make meet end added note =
    let others = drop (index + 1) items in
    record {
      resolved = added (made later (trees others))
          ∙ (ap (before found) (sym (make others))
          ∙ (ap (λ (xs : List A). before found (made now (trees xs))) (sym split) ∙ so_far.resolved));
      offences = ap (λ (o : Option Offence). fold earlier o (met later (trees others))) note
          ∙ (sym (fold-append earlier noted offences (met later (trees others)))
          ∙ (ap (fold earlier noted) (sym (meet others))
          ∙ (ap (λ (xs : List A). fold earlier noted (met now (trees xs))) (sym split) ∙ so_far.offences)));
      ends = sym (end others) ∙ (ap (λ (xs : List A). last now (trees xs)) (sym split) ∙ so_far.ends);
    }

-- one more item was resolved, which is the one at the index
pub one_more : {A T S : Type 0} {trees : List A → T} {before : List A → T → T} {made : S → T → T}
    {met : S → T → List Offence} {last : S → T → S} {start : S} {first : Option Offence} {items : List A} {index : ℕ}
    {found : List A} {now : S} {noted : Option Offence} (all : List A) (later : S) (after : Option Offence) (item : A)
    (next : T → T) (offences : List Offence)
    → SoFar trees before made met last start first items index found now noted
    → index < length items → item ≡ get_or items index item
    → ((others : List A) → made now (trees (item ∷ others)) ≡ next (made later (trees others)))
    → ((others : List A) → met now (trees (item ∷ others)) ≡ offences ++ met later (trees others))
    → ((others : List A) → last now (trees (item ∷ others)) ≡ last later (trees others))
    → ((rest : T) → before all rest ≡ before found (next rest)) → after ≡ fold earlier noted offences
    → SoFar trees before made met last start first items (index + 1) all later after
one_more {A} {T} {S} {trees} {before} {made} {met} {last} {start} {first} {items} {index} {found} {now}
    {noted} all later
    after item next offences so_far there is make meet end added note =
    one_more_left all later after item next offences so_far
    (drop_item items index item there is) make meet end added note

-- All items were resolved, and this is the tree of what was found.
pub record Done {A T S : Type 0} (trees : List A → T) (made : S → T → T) (met : S → T → List Offence)
    (last : S → T → S) (start : S) (first : Option Offence) (items : List A) (tree : T) (now : S)
    (noted : Option Offence) : Type 0 where
  pub resolved : tree ≡ made start (trees items)
  pub offences : noted ≡ fold earlier first (met start (trees items))
  pub ends : now ≡ last start (trees items)

pub all_done : {A T S : Type 0} {trees : List A → T} {before : List A → T → T} {made : S → T → T}
    {met : S → T → List Offence} {last : S → T → S} {start : S} {first : Option Offence} {items : List A} {index : ℕ}
    {found : List A} {now : S} {noted : Option Offence} {tree : T}
    → SoFar trees before made met last start first items index found now noted → length items ≤ index
    → tree ≡ before found (made now (trees [])) → met now (trees []) ≡ [] → now ≡ last now (trees [])
    → Done trees made met last start first items tree now noted
all_done {A} {T} {S} {trees} {before} {made} {met} {last} {start} {first} {items} {index} {found} {now} {noted} so_far
    over make meet end =
    let none = sym (drop_all index items over) in
    record {
      resolved = make ∙ (ap (λ (xs : List A). before found (made now (trees xs))) none ∙ so_far.resolved);
      offences = ap (fold earlier noted) (sym meet)
          ∙ (ap (λ (xs : List A). fold earlier noted (met now (trees xs))) none ∙ so_far.offences);
      ends = end ∙ (ap (λ (xs : List A). last now (trees xs)) none ∙ so_far.ends);
    }
