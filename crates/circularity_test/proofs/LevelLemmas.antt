-- The search for distances, level by level.
--
--   `marks_first`              the table with the goal alone
--   `marks_more`               one node more was followed
--   `marks_next`               a level was followed
--   `marks_near`               the table at the end of the search
use Rattle.std.proofs.Common.{◌≡◌, ◌∙◌, ◌⊎◌, inl, inr, ⊎_elim, ℕ, zero, suc, ◌+◌, ◌<◌, ◌≤◌, List, [], ◌∷◌, length, Contains, Some, refl, sym, ap, subst, arith, nat_eq, eq-eqb}
use Rattle.std.proofs.lemmas.Bool.{cases_lt}
use Rattle.std.proofs.lemmas.Map.Entries.{lookup_head}
use Rattle.std.proofs.lemmas.Option.{none-some, same_Some, slice_get_within}
use Rattle.std.specs.Prelude.{slice_get}
use Rattle.abs_graph.specs.Graphs.{Graph, successors}
use Rattle.circularity_test.proofs.MarkLemmas.{entry_cases, mark_entry, mark_kept}
use Rattle.circularity_test.specs.Distances.{AreNear, HasOne, IsBefore, Leads, Marks, Spreads, mark_in}
use Rattle.circularity_test.specs.Distances.Leads.{there, onward}

-- the entry of a table with the goal alone
only_entry : (goal place node distance : ℕ) → slice_get {X = ℕ × ℕ} ((goal, 0) ∷ []) place ≡ Some (node, distance)
    → (goal ≡ node) × (0 ≡ distance)
only_entry goal zero node distance is =
    let same = same_Some (goal, 0) (node, distance) is in
    (ap (λ (it : ℕ × ℕ). it.0) same, ap (λ (it : ℕ × ℕ). it.1) same)
only_entry goal (suc place) node distance is = absurd (none-some (node, distance) is)

-- the marks of that table
marks_goal : (before : Graph) (goal : ℕ) → Marks before goal 0 0 1 ((goal, 0) ∷ [])
marks_goal before goal = record {
  goal_is = lookup_head (nat_eq goal) (goal, 0) [] (eq-eqb goal goal refl);
  leads = λ place node distance is.
      let only = only_entry goal place node distance is in
      subst (λ it. Leads before goal it distance) only.0 (subst (Leads before goal goal) only.1 there);
  followed = λ place node distance other inside. absurd (omega (arith, inside));
  passed = λ place node distance inside. absurd (omega (arith, inside));
  level_is = λ place node distance from inside is. sym (only_entry goal place node distance is).1;
  next_is = λ place node distance from is.
      let within = slice_get_within {A = ℕ × ℕ} ((goal, 0) ∷ []) place (node, distance) is in
      absurd (omega (arith, within, from));
}

-- the table with the goal alone
pub marks_first : (before : Graph) (goal : ℕ) (marks : List (ℕ × ℕ)) → marks ≡ (goal, 0) ∷ []
    → Marks before goal 0 0 (length marks) marks
marks_first before goal marks is =
    subst (λ it. Marks before goal 0 0 (length it) it) (sym is) (marks_goal before goal)

module _ (before : Graph) (goal level index end : ℕ) (marks : List (ℕ × ℕ))
    (known : Marks before goal level index end marks) where
  -- no entry is past the next level
  within_next : (place node distance : ℕ) → slice_get marks place ≡ Some (node, distance) → distance ≤ suc level
  within_next place node distance is = ⊎_elim
      (λ passed. let small = known.passed place node distance passed is in omega (arith, small))
      (λ from. ⊎_elim
      (λ inside. let same = known.level_is place node distance from inside is in omega (arith, same))
      (λ past. let same = known.next_is place node distance past is in omega (arith, same))
      (cases_lt place end))
      (cases_lt place index)

  -- If each entry with a distance below a bound was followed, then each walk up to the bound gives its node a distance.
  walk_marked : (bound : ℕ)
      → ((place node distance : ℕ) → slice_get marks place ≡ Some (node, distance) → distance < bound → place < index)
      → (node length : ℕ) → Leads before goal node length → length ≤ bound
      → (distance : ℕ) × (distance ≤ length) × (mark_in marks node ≡ Some distance)
  walk_marked bound covers node length there small = (0, omega arith, known.goal_is)
  walk_marked bound covers node length (onward from next rest edge walk) small =
      let near = walk_marked bound covers next rest walk (omega (arith, small)) in
      let entry = mark_entry marks next near.0 near.2 in
      let passed = covers entry.0 next near.0 entry.1 (omega (arith, near.1, small)) in
      let given = known.followed entry.0 next near.0 from passed entry.1 edge in
      (given.0, omega (arith, given.1, near.1), given.2)

module _ (before : Graph) (goal level index end node : ℕ) (old new : List (ℕ × ℕ))
    (known : Marks before goal level index end old) (inside : index < end) (fits : end ≤ length old)
    (distance : ℕ) (is : slice_get old index ≡ Some (node, distance))
    (spread : Spreads (successors before node) (suc level) old new) where
  -- an entry of the new table is an old one, or has the distance of the next level
  entry_was : (place one given : ℕ) → slice_get new place ≡ Some (one, given)
      → (slice_get old place ≡ Some (one, given))
      ⊎ ((length old ≤ place) × IsBefore before one node × (given ≡ suc level))
  entry_was place one given at = ⊎_elim
      (λ was. inl was)
      (λ added.
      let each = spread.each one given added.1 in
      inr (added.0, each.0, each.1))
      (entry_cases old spread.added place (one, given)
      (subst (λ it. slice_get it place ≡ Some (one, given)) spread.is at))

  -- before the end, it is an old one
  entry_old : (place one given : ℕ) → place < end → slice_get new place ≡ Some (one, given)
      → slice_get old place ≡ Some (one, given)
  entry_old place one given small at =
      ⊎_elim (λ was. was) (λ added. absurd (omega (arith, small, fits, added.0))) (entry_was place one given at)

  -- a distance stays
  kept : (one given : ℕ) → mark_in old one ≡ Some given → mark_in new one ≡ Some given
  kept one given mark =
      subst (λ it. mark_in it one ≡ Some given) (sym spread.is) (mark_kept old spread.added one given mark)

  -- the distance of the followed node
  followed_is : distance ≡ level
  followed_is = known.level_is index node distance (omega arith) inside is

  -- the nodes before the followed node have distances
  followed_here : (place one given other : ℕ) → place ≡ index → slice_get new place ≡ Some (one, given)
      → IsBefore before other one → (mark : ℕ) × (mark ≤ suc given) × (mark_in new other ≡ Some mark)
  followed_here place one given other here at edge =
      let small : place < end = omega (arith, here, inside) in
      let was = entry_old place one given small at in
      let same = same_Some (one, given) (node, distance)
      (sym was ∙ (ap (slice_get old) here ∙ is)) in
      let mark = spread.marked other
      (subst (λ it. Contains (successors before it) other) (ap (λ (it : ℕ × ℕ). it.0) same) edge) in
      let entry = mark_entry new other mark.0 mark.1 in
      let bound : mark.0 ≤ suc level = ⊎_elim
      (λ earlier. within_next before goal level index end old known entry.0 other mark.0 earlier)
      (λ added. let equal = added.2 in omega (arith, equal))
      (entry_was entry.0 other mark.0 entry.1) in
      let given_is : given ≡ distance = ap (λ (it : ℕ × ℕ). it.1) same in
      (mark.0, omega (arith, bound, given_is, followed_is), mark.1)

  -- one node more was followed
  pub marks_more : Marks before goal level (index + 1) end new
  marks_more = record {
    goal_is = kept goal 0 known.goal_is;
    leads = λ place one given at. ⊎_elim
        (λ was. known.leads place one given was)
        (λ added.
        subst (Leads before goal one) (sym added.2)
        (onward one node level added.1
        (subst (Leads before goal node) followed_is (known.leads index node distance is))))
        (entry_was place one given at);
    followed = λ place one given other small at edge. ⊎_elim
        (λ earlier.
        let was = entry_old place one given (omega (arith, earlier, inside)) at in
        let mark = known.followed place one given other earlier was edge in
        (mark.0, mark.1, kept other mark.0 mark.2))
        (λ from. followed_here place one given other (omega (arith, from, small)) at edge)
        (cases_lt place index);
    passed = λ place one given small at.
        let was = entry_old place one given (omega (arith, small, inside)) at in
        ⊎_elim
        (λ earlier. known.passed place one given earlier was)
        (λ from.
        let same = known.level_is place one given from (omega (arith, small, inside)) was in
        omega (arith, same))
        (cases_lt place index);
    level_is = λ place one given from small at.
        known.level_is place one given (omega (arith, from)) small (entry_old place one given small at);
    next_is = λ place one given from at. ⊎_elim
        (λ was. known.next_is place one given from was)
        (λ added. added.2)
        (entry_was place one given at);
  }

-- a level was followed
pub marks_next : (before : Graph) (goal level end : ℕ) (marks : List (ℕ × ℕ))
    → Marks before goal level end end marks → Marks before goal (level + 1) end (length marks) marks
marks_next before goal level end marks known = record {
  goal_is = known.goal_is;
  leads = known.leads;
  followed = known.followed;
  passed = λ place node distance inside is.
      let small = known.passed place node distance inside is in omega (arith, small);
  level_is = λ place node distance from inside is.
      let same = known.next_is place node distance from is in omega (arith, same);
  next_is = λ place node distance from is.
      let within = slice_get_within marks place (node, distance) is in absurd (omega (arith, within, from));
}

-- the table at the end of the search
pub marks_near : (before : Graph) (goal level index : ℕ) (starts : List ℕ) (marks : List (ℕ × ℕ))
    → Marks before goal level index (length marks) marks → (length marks ≤ index) ⊎ HasOne starts marks
    → AreNear before goal starts (mark_in marks)
marks_near before goal level index starts marks known ended = record {
  bound = level;
  leads = λ node distance is.
      let entry = mark_entry marks node distance is in known.leads entry.0 node distance entry.1;
  within = λ node distance is.
      let entry = mark_entry marks node distance is in
      ⊎_elim
      (λ passed. known.passed entry.0 node distance passed entry.1)
      (λ from.
      let same = known.level_is entry.0 node distance from
      (slice_get_within marks entry.0 (node, distance) entry.1) entry.1 in
      omega (arith, same))
      (cases_lt entry.0 index);
  near = walk_marked before goal level index (length marks) marks known level
      (λ place node distance is small. ⊎_elim
      (λ passed. passed)
      (λ from.
      let same = known.level_is place node distance from (slice_get_within marks place (node, distance) is) is in
      absurd (omega (arith, same, small)))
      (cases_lt place index));
  enough = λ from. ⊎_elim
      (λ all.
      let mark = walk_marked before goal level index (length marks) marks known from.length
      (λ place node distance is small.
      let within = slice_get_within marks place (node, distance) is in omega (arith, within, all))
      from.node from.length from.leads (omega arith) in
      (from.node, mark.0, from.inside, mark.2))
      (λ one. (one.node, one.distance, one.inside, one.marked))
      ended;
}
