-- The components of the graph of parts.
--
--   `edge_inside`, `edge_outside`              a row got an edge, or none where that leads elsewhere
--   `RowsSoFar`, `rows_none`, `rows_more`, `rows_all`          the rows of a graph of parts, in a loop
--   `rows_have_nodes`          what the search for components asks
--   `edge_rises`               along the edges of a graph the numbers of components do not fall
--   `level_test`               an edge of a pair stays in a component just where the pair is level
--   `LevelSoFar`, `level_more`, `level_less`, `level_all`            the pairs that stay in one, in a loop
use Rattle.std.proofs.Common.{◌≡◌, ◌∙◌, ⊎_elim, ℕ, ◌+◌, ◌≤◌, ◌<◌, Bool, true, false, cond, List, [], ◌∷◌, ◌++◌, length, take, filter, get_or, replicate, slice_get, Option, Some, None, Contains, ◌||◌, refl, sym, ap, subst, arith, nat_eq, eq-eqb, append-nil, if◌then◌else◌}
use Rattle.std.specs.List.{IsDistinct, list_any}
use Rattle.std.specs.Prelude.{option_and_then}
use Rattle.std.proofs.lemmas.Bool.{cases_eq}
use Rattle.std.proofs.lemmas.List.{get_or_default, take_all}
use Rattle.std.proofs.lemmas.List.Elements.{Contains-get_or, filter-append}
use Rattle.std.proofs.lemmas.Option.{none-some, same_Some, slice_get_within}
use Rattle.abs_graph.specs.Components.{AreComponents, number_of}
use Rattle.abs_graph.specs.Graphs.{Graph, HasNodes, leads, successors}
use Rattle.circularity_test.proofs.NodeLemmas.{zip_push}
use Rattle.circularity_test.proofs.NumberLemmas.{number_in, number_there, numbers_of}
use Rattle.circularity_test.proofs.StepLemmas.{part_eq}
use Rattle.circularity_test.proofs.TableLemmas.{empty_count, empty_none}
use Rattle.circularity_test.specs.Components.{AddsEdge, AreInside, HasRows, component_at, component_by}
use Rattle.circularity_test.specs.Numbers.{AreComponentsOf, Numbers, entry_number, is_level, number_by}
use Rattle.circularity_test.specs.Parts.{EdgeAt, HasEdge, entry_part, own_edge, part_by}
use Rattle.circularity_test.specs.Tables.{Gains}
use Rattle.circularity_test.specs.declared.parts.Edge.{Edge}
use Rattle.circularity_test.specs.declared.parts.Part.{Part}
use Rattle.circularity_test.specs.declared.parts.Part.TheVariants as part
use Rattle.circularity_test.specs.declared.parts.Parts.{Parts}
use Rattle.contract_terms.specs.declared.pair.Mode.{Mode}
use Rattle.contract_terms.specs.declared.pair.Mode.TheVariants.{Get, Await}
use Rattle.contract_terms.specs.declared.pair.Pair.{Pair}
use Rattle.name_bounding.specs.declared.kind.Kind.{Kind}
use Rattle.list_facts.proofs.AllLemmas.{Contains-head_or_tail}
use Rattle.list_facts.proofs.EntryLemmas.{take-found}

-- a row got an edge
pub edge_inside : (edge : Edge) (old new : Graph) → edge.to < length old
    → Gains (λ row added. (edge.from ≡ row) × (edge.to ≡ added)) old new → AddsEdge edge old new
edge_inside edge old new within gains = record {
  count = gains.count;
  inside = λ inside node next there. ⊎_elim
      (λ earlier. let below = inside node next earlier in omega (arith, below, gains.count))
      (λ is. let below = within in omega (arith, below, is.1, gains.count))
      (gains.only node next there);
  kept = gains.kept;
  added = λ from to. gains.all edge.from edge.to (refl, refl);
}

-- an edge that leads elsewhere is left out
pub edge_outside : (edge : Edge) (graph : Graph) → (edge.from < length graph → edge.to < length graph → ⊥)
    → AddsEdge edge graph graph
edge_outside edge graph outside = record {
  count = refl;
  inside = λ inside. inside;
  kept = λ node next there. there;
  added = λ from to. absurd (outside from to);
}

-- The rows have the edges before an index.
pub record RowsSoFar (edges : List Edge) (count index : ℕ) (graph : Graph) : Type 0 where
  pub count_is : length graph ≡ count
  pub inside : AreInside graph
  pub has : (at : ℕ) (edge : Edge) → at < index → slice_get edges at ≡ Some edge → edge.from < count → edge.to < count
      → Contains (successors graph edge.from) edge.to

-- empty rows have no edges
pub rows_none : (edges : List Edge) (count : ℕ) (graph : Graph) → graph ≡ replicate count []
    → RowsSoFar edges count 0 graph
rows_none edges count graph empty = record {
  count_is = empty_count count graph empty;
  inside = λ node next there. absurd (empty_none count node next graph empty there);
  has = λ at edge less there from to. absurd (omega (arith, less));
}

-- one edge more
pub rows_more : (edges : List Edge) (count index : ℕ) (edge : Edge) (old new : Graph)
    → slice_get edges index ≡ Some edge → RowsSoFar edges count index old → AddsEdge edge old new
    → RowsSoFar edges count (index + 1) new
rows_more edges count index edge old new there so_far adds = record {
  count_is = adds.count ∙ so_far.count_is;
  inside = adds.inside so_far.inside;
  has = λ at one less here from to. ⊎_elim
      (λ same.
      let is : edge ≡ one = same_Some edge one (sym there ∙ (ap (slice_get edges) (sym same) ∙ here)) in
      subst (λ it. Contains (successors new it.from) it.to) is
      (adds.added
      (let size = so_far.count_is in let is_from = ap (λ it. it.from) is in omega (arith, from, size, is_from))
      (let size = so_far.count_is in let is_to = ap (λ it. it.to) is in omega (arith, to, size, is_to))))
      (λ apart. adds.kept one.from one.to (so_far.has at one (omega (arith, less, apart)) here from to))
      (cases_eq at index);
}

-- all edges
pub rows_all : (parts : Parts) (count index : ℕ) (graph : Graph) → count ≡ length parts.parts.keys
    → length parts.edges.items ≤ index → RowsSoFar parts.edges.items count index graph → HasRows parts graph
rows_all parts count index graph same over so_far = record {
  count = so_far.count_is ∙ same;
  inside = so_far.inside;
  has = λ at edge there from to.
      let within = slice_get_within parts.edges.items at edge there in
      so_far.has at edge (omega (arith, within, over)) there
      (let size = so_far.count_is in omega (arith, from, size))
      (let size = so_far.count_is in omega (arith, to, size));
}

-- each edge of rows leads to one
pub rows_have_nodes : (graph : Graph) → AreInside graph → HasNodes graph
rows_have_nodes graph inside = λ at row within. λ place node less.
    let own = get_or graph at row in
    inside at (get_or own place node)
    (subst (λ list. Contains list (get_or own place node)) (get_or_default graph at row [] within)
    (Contains-get_or own place node less))

-- an edge of rows leads
leads_there : (graph : Graph) (node next : ℕ) → Contains (successors graph node) next → leads graph node next ≡ true
leads_there graph node next there = any_there (successors graph node) next there
  where
    or_later : (first later : Bool) → later ≡ true → (first || later) ≡ true
    or_later true later is = refl
    or_later false later is = is

    any_there : (list : List ℕ) (one : ℕ) → Contains list one → list_any (λ other. nat_eq other one) list ≡ true
    any_there [] one there = absurd (omega (arith, there.1))
    any_there (first ∷ list) one there = ⊎_elim
        (λ same. rw (eq-eqb first one same) refl)
        (λ later. or_later (nat_eq first one) (list_any (λ other. nat_eq other one) list) (any_there list one later))
        (Contains-head_or_tail first list one there)

-- along the edges of a graph of parts the numbers of components do not fall
pub edge_rises : (parts : Parts) (graph : Graph) (roots numbers : List ℕ) → HasRows parts graph
    → AreComponents graph roots numbers → IsDistinct part_eq parts.parts.keys → (edge : Part × Part)
    → HasEdge parts edge
    → number_in parts.parts.keys numbers edge.0 ≤ number_in parts.parts.keys numbers edge.1
edge_rises parts graph roots numbers rows are distinct edge has =
    let at = has.1 in
    let from = slice_get_within parts.parts.keys at.from edge.0 at.begins in
    let to = slice_get_within parts.parts.keys at.to edge.1 at.ends in
    let size = rows.count in
    let one = number_there parts.parts.keys numbers distinct at.from edge.0 at.begins in
    let other = number_there parts.parts.keys numbers distinct at.to edge.1 at.ends in
    let rise = are.never_falls at.from at.to (leads_there graph at.from at.to
    (rows.has has.0 (record { from = at.from; to = at.to }) at.there (omega (arith, from, size))
    (omega (arith, to, size)))) in
    omega (arith, one, other, rise)

module _ (parts : Parts) (numbers : List ℕ) (distinct : IsDistinct part_eq parts.parts.keys) where
  abbrev own : Numbers
  own = numbers_of parts.parts.keys numbers

  -- where a pair waits has the number of its part
  entry_is : (mode : Mode) (kind : Kind)
      → number_by own mode kind ≡ number_in parts.parts.keys numbers (part_by mode kind)
  entry_is Get kind = refl
  entry_is Await kind = refl

  -- an edge of a pair stays in a component just where the pair is level
  pub level_test : (index : ℕ) (pair : Pair) → EdgeAt parts index (own_edge pair)
      → component_at numbers parts.edges.items index
      ≡ (if is_level own pair then Some (entry_number own pair) else None)
  unfolding is_level
  level_test index pair at =
      let from : number_of numbers at.from ≡ entry_number own pair =
      sym (number_there parts.parts.keys numbers distinct at.from (entry_part pair) at.begins)
      ∙ sym (entry_is pair.mode pair.source) in
      let to : number_of numbers at.to ≡ own.target pair.target =
      sym (number_there parts.parts.keys numbers distinct at.to (part.Target pair.target) at.ends) in
      ap (option_and_then (component_by numbers)) at.there
      ∙ (ap (λ one. if nat_eq one (number_of numbers at.to) then Some one else None) from
      ∙ ap (λ one. if nat_eq (entry_number own pair) one then Some (entry_number own pair) else None) to)

-- The pairs before an index that stay in a component.
pub record LevelSoFar (numbers : Numbers) (list : List Pair) (index : ℕ) (pairs : List Pair) (components : List ℕ)
    : Type 0 where
  pub pairs_are : pairs ≡ filter (is_level numbers) (take index list)
  pub components_are : AreComponentsOf (entry_number numbers) pairs components

module _ (numbers : Numbers) (list : List Pair) (index : ℕ) (pair : Pair) (there : slice_get list index ≡ Some pair)
    (found : Option ℕ) (test : found ≡ (if is_level numbers pair then Some (entry_number numbers pair) else None))
  where
    -- what one pair more adds
    kept_more : (level : Bool) → is_level numbers pair ≡ level
        → filter (is_level numbers) (take (index + 1) list)
        ≡ filter (is_level numbers) (take index list) ++ cond level (pair ∷ []) []
    kept_more level is =
        ap (filter (is_level numbers)) (take-found list index pair there)
        ∙ (filter-append (is_level numbers) (take index list) (pair ∷ [])
        ∙ ap (λ (one : Bool). filter (is_level numbers) (take index list) ++ cond one (pair ∷ []) []) is)

    found_by : (level : Bool) → is_level numbers pair ≡ level → (component : ℕ) → found ≡ Some component
        → (level ≡ true) × (entry_number numbers pair ≡ component)
    found_by true is component some = (
      refl,
      same_Some (entry_number numbers pair) component (sym (test
          ∙ ap (λ (one : Bool). if one then Some (entry_number numbers pair) else None) is) ∙ some),
    )
    found_by false is component some = absurd (none-some component (sym (test
        ∙ ap (λ (one : Bool). if one then Some (entry_number numbers pair) else None) is) ∙ some))

    missed_by : (level : Bool) → is_level numbers pair ≡ level → found ≡ None → level ≡ false
    missed_by true is none = absurd (none-some (entry_number numbers pair) (sym none ∙ (test
        ∙ ap (λ (one : Bool). if one then Some (entry_number numbers pair) else None) is)))
    missed_by false is none = refl

    -- a pair that stays in a component is added
    pub level_more : (pairs more : List Pair) (components others : List ℕ) (component : ℕ) → found ≡ Some component
        → more ≡ pairs ++ pair ∷ [] → others ≡ components ++ component ∷ []
        → LevelSoFar numbers list index pairs components → LevelSoFar numbers list (index + 1) more others
    level_more pairs more components others component some added numbered so_far =
        let it = found_by (is_level numbers pair) refl component some in
        record {
          pairs_are = added ∙ (ap (λ before. before ++ pair ∷ []) so_far.pairs_are
              ∙ sym (kept_more true it.0));
          components_are = subst (λ now. AreComponentsOf (entry_number numbers) now others) (sym added)
              (subst (AreComponentsOf (entry_number numbers) (pairs ++ pair ∷ [])) (sym numbered)
              (zip_push _ pairs components pair component so_far.components_are it.1));
        }

    -- any other one is not
    pub level_less : (pairs : List Pair) (components : List ℕ) → found ≡ None
        → LevelSoFar numbers list index pairs components → LevelSoFar numbers list (index + 1) pairs components
    level_less pairs components none so_far = record {
      pairs_are = so_far.pairs_are ∙ (sym (append-nil (filter (is_level numbers) (take index list)))
          ∙ sym (kept_more false (missed_by (is_level numbers pair) refl none)));
      components_are = so_far.components_are;
    }

-- all pairs that stay in a component
pub level_all : (numbers : Numbers) (list : List Pair) (index : ℕ) (pairs : List Pair) (components : List ℕ)
    → length list ≤ index → LevelSoFar numbers list index pairs components
    → pairs ≡ filter (is_level numbers) list
level_all numbers list index pairs components over so_far =
    so_far.pairs_are ∙ ap (filter (is_level numbers)) (take_all index list over)
