-- Tables of the distances of nodes.
--
--   `mark_entry`               where a distance is in a table
--   `entry_cases`              an entry of a longer table was there, or was added
--   `entry_of_node`            the entry at an index, by the nodes of a table
--   `some_mark`, `no_mark`     whether a node has a distance
--   `mark_kept`                a distance stays when more entries follow
--   `spreads_none`, `spreads_known`, `spreads_new`     a distance for no node, and for one
--   `spreads_more`, `spreads_all`              a loop over nodes: one turn, and its end
--   `spreads_longer`           no entry is gone
use Rattle.std.proofs.Common.{◌≡◌, ◌∙◌, ◌⊎◌, inl, inr, ⊎_elim, ℕ, ◌+◌, ◌-◌, ◌<◌, ◌≤◌, List, [], ◌∷◌, ◌++◌, length, take, get_or, Contains, Some, refl, sym, ap, subst, arith, nat_eq, eq-eqb}
use Rattle.std.proofs.lemmas.Bool.{cases_Bool, cases_lt, eqb-true, true≢false}
use Rattle.std.proofs.lemmas.List.{append-nil, append_assoc, length-append, take_all, take_more}
use Rattle.std.proofs.lemmas.List.Elements.{Contains-append_cases, Contains-append_left, Contains-append_right}
use Rattle.std.proofs.lemmas.Map.Entries.{lookup_head, lookup_tail, place_from_lookup}
use Rattle.std.proofs.lemmas.Option.{get_or_from_slice_get, none-some, slice_get-map, slice_get_within}
use Rattle.std.specs.Map.{keys_of}
use Rattle.std.specs.Prelude.{Option, None, true, false, is_some, option_map, slice_get}
use Rattle.circularity_test.specs.Distances.{Spreads, mark_in}
use Rattle.list_facts.proofs.AllLemmas.{Contains-head_or_tail}
use Rattle.list_facts.proofs.EntryLemmas.{slice_get-after, slice_get-before, slice_get-there}

-- where a distance is in a table
pub mark_entry : (marks : List (ℕ × ℕ)) (node distance : ℕ) → mark_in marks node ≡ Some distance
    → (place : ℕ) × (slice_get marks place ≡ Some (node, distance))
mark_entry marks node distance is =
    let found = place_from_lookup (nat_eq node) marks distance is in (
      found.0,
      subst (λ it. slice_get marks found.0 ≡ Some (it, distance)) (sym (eqb-true node found.1 found.3)) found.2,
    )

-- an entry of a longer table was there, or was added
pub entry_cases : (marks added : List (ℕ × ℕ)) (place : ℕ) (entry : ℕ × ℕ)
    → slice_get (marks ++ added) place ≡ Some entry
    → (slice_get marks place ≡ Some entry) ⊎ ((length marks ≤ place) × Contains added entry)
entry_cases marks added place entry is = ⊎_elim
    (λ inside. inl (sym (slice_get-before marks added place inside) ∙ is))
    (λ past.
    let later = place - length marks in
    let there : slice_get added later ≡ Some entry =
    sym (slice_get-after marks added place later (omega (arith, past))) ∙ is in
    inr (past, (later, slice_get_within added later entry there, get_or_from_slice_get added later entry entry there)))
    (cases_lt place (length marks))

-- the entry at an index, by the nodes of a table
pub entry_of_node : (marks : List (ℕ × ℕ)) (nodes : List ℕ) (index : ℕ) → nodes ≡ keys_of marks → index < length marks
    → (distance : ℕ) × (slice_get marks index ≡ Some (get_or nodes index 0, distance))
entry_of_node marks nodes index are inside =
    let entry = slice_get-there marks index inside in
    let node : slice_get nodes index ≡ Some entry.0.0 =
    ap (λ it. slice_get it index) are
    ∙ (slice_get-map (λ (it : ℕ × ℕ). it.0) marks index ∙ ap (option_map (λ (it : ℕ × ℕ). it.0)) entry.1) in (
      entry.0.1,
      subst (λ it. slice_get marks index ≡ Some (it, entry.0.1))
          (sym (get_or_from_slice_get nodes index entry.0.0 0 node)) entry.1,
    )

-- where a node has a distance
pub some_mark : (mark : Option ℕ) → is_some mark ≡ true → (given : ℕ) × (mark ≡ Some given)
some_mark (Some given) is = (given, refl)
some_mark None is = absurd (true≢false (sym is))

-- where a node has none
pub no_mark : (mark : Option ℕ) → is_some mark ≡ false → mark ≡ None
no_mark None is = refl
no_mark (Some given) is = absurd (true≢false is)

-- a distance stays when more entries follow
pub mark_kept : (marks added : List (ℕ × ℕ)) (node distance : ℕ) → mark_in marks node ≡ Some distance
    → mark_in (marks ++ added) node ≡ Some distance
mark_kept [] added node distance is = absurd (none-some distance is)
mark_kept (first ∷ marks) added node distance is = ⊎_elim
    (λ here. lookup_head (nat_eq node) first (marks ++ added) here
    ∙ (sym (lookup_head (nat_eq node) first marks here) ∙ is))
    (λ other. lookup_tail (nat_eq node) first (marks ++ added) other
    ∙ mark_kept marks added node distance (sym (lookup_tail (nat_eq node) first marks other) ∙ is))
    (cases_Bool (nat_eq node first.0))

-- the node of the last entry has a distance
mark_added : (marks : List (ℕ × ℕ)) (node distance : ℕ)
    → (given : ℕ) × (mark_in (marks ++ (node, distance) ∷ []) node ≡ Some given)
mark_added [] node distance =
    (distance, lookup_head (nat_eq node) (node, distance) [] (eq-eqb node node refl))
mark_added (first ∷ marks) node distance = ⊎_elim
    (λ here. (first.1, lookup_head (nat_eq node) first (marks ++ (node, distance) ∷ []) here))
    (λ other.
    let later = mark_added marks node distance in
    (later.0, lookup_tail (nat_eq node) first (marks ++ (node, distance) ∷ []) other ∙ later.1))
    (cases_Bool (nat_eq node first.0))

-- a distance for no node
pub spreads_none : (nodes : List ℕ) (distance : ℕ) (marks : List (ℕ × ℕ)) → length nodes ≡ 0
    → Spreads nodes distance marks marks
spreads_none nodes distance marks none = record {
  added = [];
  is = sym (append-nil marks);
  each = λ node given there. absurd (omega (arith, there.1));
  marked = λ node there. absurd (omega (arith, there.1, none));
}

-- a node that has one keeps it
pub spreads_known : (node given distance : ℕ) (marks : List (ℕ × ℕ)) → mark_in marks node ≡ Some given
    → Spreads (node ∷ []) distance marks marks
spreads_known node given distance marks known = record {
  added = [];
  is = sym (append-nil marks);
  each = λ other one there. absurd (omega (arith, there.1));
  marked = λ other there. ⊎_elim
      (λ same. (given, subst (λ it. mark_in marks it ≡ Some given) same known))
      (λ none. absurd (omega (arith, none.1)))
      (Contains-head_or_tail node [] other there);
}

-- another node gets the distance
pub spreads_new : (node distance : ℕ) (old new : List (ℕ × ℕ)) → new ≡ old ++ (node, distance) ∷ []
    → Spreads (node ∷ []) distance old new
spreads_new node distance old new is = record {
  added = (node, distance) ∷ [];
  is = is;
  each = λ other given there. ⊎_elim
      (λ same. (
        subst (Contains (node ∷ [])) (ap (λ (it : ℕ × ℕ). it.0) same) (0, omega arith, refl),
        sym (ap (λ (it : ℕ × ℕ). it.1) same),
      ))
      (λ none. absurd (omega (arith, none.1)))
      (Contains-head_or_tail (node, distance) [] (other, given) there);
  marked = λ other there. ⊎_elim
      (λ same.
      let mark = mark_added old node distance in (
        mark.0,
        subst (λ it. mark_in new it ≡ Some mark.0) same
            (subst (λ it. mark_in it node ≡ Some mark.0) (sym is) mark.1),
      ))
      (λ none. absurd (omega (arith, none.1)))
      (Contains-head_or_tail node [] other there);
}

-- one list of nodes after the other
spreads_then : (nodes others : List ℕ) (distance : ℕ) (old between new : List (ℕ × ℕ))
    → Spreads nodes distance old between → Spreads others distance between new
    → Spreads (nodes ++ others) distance old new
spreads_then nodes others distance old between new one two = record {
  added = one.added ++ two.added;
  is = two.is ∙ (ap (λ (it : List (ℕ × ℕ)). it ++ two.added) one.is ∙ append_assoc old one.added two.added);
  each = λ node given there. ⊎_elim
      (λ earlier.
      let is = one.each node given earlier in
      (Contains-append_left nodes others node is.0, is.1))
      (λ later.
      let is = two.each node given later in
      (Contains-append_right nodes others node is.0, is.1))
      (Contains-append_cases one.added two.added (node, given) there);
  marked = λ node there. ⊎_elim
      (λ earlier.
      let mark = one.marked node earlier in (
        mark.0,
        subst (λ it. mark_in it node ≡ Some mark.0) (sym two.is) (mark_kept between two.added node mark.0 mark.1),
      ))
      (λ later. two.marked node later)
      (Contains-append_cases nodes others node there);
}

-- one node more
pub spreads_more : (nodes : List ℕ) (index node distance : ℕ) (old between new : List (ℕ × ℕ))
    → index < length nodes → node ≡ get_or nodes index node → Spreads (take index nodes) distance old between
    → Spreads (node ∷ []) distance between new → Spreads (take (index + 1) nodes) distance old new
spreads_more nodes index node distance old between new within is so_far step =
    subst (λ it. Spreads it distance old new)
    (ap (λ it. take index nodes ++ it ∷ []) is ∙ sym (take_more nodes index node within))
    (spreads_then (take index nodes) (node ∷ []) distance old between new so_far step)

-- all nodes
pub spreads_all : (nodes : List ℕ) (index distance : ℕ) (old new : List (ℕ × ℕ)) → length nodes ≤ index
    → Spreads (take index nodes) distance old new → Spreads nodes distance old new
spreads_all nodes index distance old new over spread =
    subst (λ it. Spreads it distance old new) (take_all index nodes over) spread

-- no entry is gone
pub spreads_longer : (nodes : List ℕ) (distance : ℕ) (old new : List (ℕ × ℕ)) → Spreads nodes distance old new
    → length old ≤ length new
spreads_longer nodes distance old new spread =
    let long = length-append old spread.added in
    let same : length new ≡ length (old ++ spread.added) = ap (λ (it : List (ℕ × ℕ)). length it) spread.is in
    omega (arith, long, same)
