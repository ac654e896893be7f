-- How the graph of roots comes to have its edges.
use Rattle.std.proofs.Common.{◌≡◌, ℕ, ◌+◌, ◌<◌, Bool, true, false, ◌||◌, ◌&&◌, not, List, [], ◌∷◌, ◌++◌, refl, sym, ap, ◌∙◌, subst, inl, inr, length, get_or, set, take, nat_eq, arith, eq-eqb, eqb-true, true≢false}
use Rattle.std.specs.List.{list_any}
use Rattle.std.specs.declared.alloc.Global.{Global}
use Rattle.std.specs.declared.vec.Vec.{Vec}
use Rattle.std.proofs.Math.Bool.{or-false, or_assoc}
use Rattle.std.proofs.lemmas.Bool.{cases_eq, or_left, or_right, or_cases, and_from, and_parts, and_right, ne_eqb, not_from_false}
use Rattle.std.proofs.lemmas.List.{get_or_default, get_or-map, get_or-set_same, get_or-set_other, length-set, map-set}
use Rattle.std.proofs.lemmas.List.Folds.{list_any-append, list_any_more}
use Rattle.abs_graph.specs.Components.{AreComponents, root_of}
use Rattle.abs_graph.specs.Graphs.{Graph, successors, leads}
use Rattle.abs_graph.specs.RootEdges.{Crosses, crosses, AreRootsAdded}
use Rattle.abs_graph.specs.Views.{graph_of}
use Rattle.abs_graph.proofs.ReachLemmas.{passing, some_passes}
use Rattle.abs_graph.proofs.TableLemmas.{rows_count}

-- A graph has the edges of another one, and one more.
pub record IsEdgeAdded (old new : Graph) (from to : ℕ) : Type 0 where
  pub count : length new ≡ length old
  pub adds : (node next : ℕ) → leads new node next ≡ (leads old node next || (nat_eq from node && nat_eq to next))

-- a node was added to the row of another one
pub edge_added : (rows : List (Vec ℕ Global)) (from to : ℕ) (row before : Vec ℕ Global) → from < length rows
    → row.items ≡ (get_or rows from before).items ++ to ∷ []
    → IsEdgeAdded (graph_of rows) (graph_of (set rows from row)) from to
edge_added rows from to row before inside items =
    let old = graph_of rows in
    let there : from < length old = omega (arith, rows_count rows) in
    let is : row.items ≡ successors old from ++ to ∷ [] =
    items
    ∙ ap (λ (ns : List ℕ). ns ++ to ∷ [])
    (sym (get_or-map (λ (r : Vec ℕ Global). r.items) rows from before [] inside)) in
    let new : graph_of (set rows from row) ≡ set old from row.items =
    map-set (λ (r : Vec ℕ Global). r.items) rows from row in
    subst (λ (graph : Graph). IsEdgeAdded old graph from to) (sym new) (record {
      count = length-set old from row.items;
      adds = λ node next. elim (cases_eq node from) [
        | inl here ↦
            let test : ℕ → Bool = λ other. nat_eq other next in
            let at : nat_eq from node ≡ true = eq-eqb from node (sym here) in
            ap (λ (n : ℕ). leads (set old from row.items) n next) here
            ∙ (ap (list_any test) (get_or-set_same old from row.items [] there ∙ is)
            ∙ (list_any-append test (successors old from) (to ∷ [])
            ∙ (ap (λ (n : ℕ). leads old n next || (nat_eq to next || false)) (sym here)
            ∙ (ap (λ (b : Bool). leads old node next || b) (or-false (nat_eq to next))
            ∙ ap (λ (b : Bool). leads old node next || (b && nat_eq to next)) (sym at)))))
        | inr away ↦
            let apart : nat_eq from node ≡ false = ne_eqb from node (λ is_from. away (sym is_from)) in
            ap (list_any (λ other. nat_eq other next)) (get_or-set_other old from node row.items [] away)
            ∙ (sym (or-false (leads old node next))
            ∙ ap (λ (b : Bool). leads old node next || (b && nat_eq to next)) (sym apart))
      ];
    })

-- for one more node a test was added to those of the nodes before it
roots_added_by : (roots nodes : List ℕ) (from index : ℕ) (old middle new : Graph) (test : ℕ → ℕ → Bool)
    → AreRootsAdded roots from (take index nodes) old middle → index < length nodes → length new ≡ length middle
    → ((root goal : ℕ) → leads new root goal ≡ (leads middle root goal || test root goal))
    → ((root goal : ℕ) → test root goal ≡ crosses roots from root goal (get_or nodes index 0))
    → AreRootsAdded roots from (take (index + 1) nodes) old new
roots_added_by roots nodes from index old middle new test before less count adds is = record {
  count = count ∙ before.count;
  adds = λ root goal.
      let passes : ℕ → Bool = crosses roots from root goal in
      adds root goal
      ∙ (ap (λ (b : Bool). b || test root goal) (before.adds root goal)
      ∙ (or_assoc (leads old root goal) (list_any passes (take index nodes)) (test root goal)
      ∙ (ap (λ (b : Bool). leads old root goal || (list_any passes (take index nodes) || b)) (is root goal)
      ∙ ap (λ (b : Bool). leads old root goal || b) (sym (list_any_more passes nodes index 0 less)))));
}

-- for one more node with another root its edge was added
pub roots_added_more : (roots nodes : List ℕ) (from index root : ℕ) (old middle new : Graph)
    → AreRootsAdded roots from (take index nodes) old middle → index < length nodes
    → root ≡ root_of roots (get_or nodes index 0) → (root ≡ from → ⊥) → IsEdgeAdded middle new from root
    → AreRootsAdded roots from (take (index + 1) nodes) old new
roots_added_more roots nodes from index root old middle new before less is apart added =
    roots_added_by roots nodes from index old middle new (λ node goal. nat_eq from node && nat_eq root goal) before less
    added.count added.adds
    (λ node goal.
    ap (λ (b : Bool). nat_eq from node && (not b && nat_eq root goal)) (sym (ne_eqb root from apart))
    ∙ ap (λ (n : ℕ). nat_eq from node && (not (nat_eq n from) && nat_eq n goal)) is)

-- for one more node with the same root no edge was added
pub roots_added_same : (roots nodes : List ℕ) (from index root : ℕ) (old middle : Graph)
    → AreRootsAdded roots from (take index nodes) old middle → index < length nodes
    → root ≡ root_of roots (get_or nodes index 0) → root ≡ from
    → AreRootsAdded roots from (take (index + 1) nodes) old middle
roots_added_same roots nodes from index root old middle before less is same =
    roots_added_by roots nodes from index old middle middle (λ node goal. false) before less refl
    (λ node goal. sym (or-false (leads middle node goal)))
    (λ node goal.
    sym (and_right (nat_eq from node) false refl)
    ∙ (ap (λ (b : Bool). nat_eq from node && (not b && nat_eq root goal)) (sym (eq-eqb root from same))
    ∙ ap (λ (n : ℕ). nat_eq from node && (not (nat_eq n from) && nat_eq n goal)) is))

-- The edges of the graph of roots that come of the edges from nodes below a bound.
pub record AreRootEdgesBelow (graph : Graph) (roots : List ℕ) (edges : Graph) (bound : ℕ) : Type 0 where
  pub count : length edges ≡ length graph
  pub found : (root goal : ℕ) → leads edges root goal ≡ true → Crosses graph roots root goal
  pub whole : (node next : ℕ) → node < bound → leads graph node next ≡ true
      → (root_of roots node ≡ root_of roots next → ⊥)
      → leads edges (root_of roots node) (root_of roots next) ≡ true

-- an edge that was added comes of an edge to a node of the row
row_crosses : (graph : Graph) (roots nodes : List ℕ) (bound from root goal : ℕ) → nodes ≡ successors graph bound
    → from ≡ root_of roots bound → list_any (crosses roots from root goal) nodes ≡ true
    → Crosses graph roots root goal
row_crosses graph roots nodes bound from root goal is from_is some =
    let one = passing (crosses roots from root goal) nodes some in
    let next : ℕ = one.item in
    let at : ℕ = root_of roots next in
    let parts = and_parts (nat_eq from root) (not (nat_eq at from) && nat_eq at goal) one.passes in
    let end = and_parts (not (nat_eq at from)) (nat_eq at goal) parts.1 in
    let is_root : from ≡ root = eqb-true from root parts.0 in
    let is_goal : at ≡ goal = eqb-true at goal end.1 in
    record {
      node = bound;
      next = next;
      edge = subst (λ (ns : List ℕ). list_any (λ other. nat_eq other next) ns ≡ true) is one.had;
      from = sym from_is ∙ is_root;
      to = is_goal;
      apart = λ same. true≢false (sym end.0 ∙ ap not (eq-eqb at from (is_goal ∙ (sym same ∙ sym is_root))));
    }

-- those of the edges from one more node were added
pub root_edges_more : (graph : Graph) (roots nodes : List ℕ) (old new : Graph) (bound from : ℕ)
    → AreRootEdgesBelow graph roots old bound → nodes ≡ successors graph bound → from ≡ root_of roots bound
    → AreRootsAdded roots from nodes old new → AreRootEdgesBelow graph roots new (bound + 1)
root_edges_more graph roots nodes old new bound from before is from_is added = record {
  count = added.count ∙ before.count;
  found = λ root goal led.
      elim (or_cases (leads old root goal) (list_any (crosses roots from root goal) nodes)
      (sym (added.adds root goal) ∙ led)) [
        | inl known ↦ before.found root goal known
        | inr some ↦ row_crosses graph roots nodes bound from root goal is from_is some
      ];
  whole = λ node next below led apart.
      let root : ℕ = root_of roots node in
      let goal : ℕ = root_of roots next in
      let known = leads old root goal in
      let some = list_any (crosses roots from root goal) nodes in
      elim (cases_eq node bound) [
        | inl here ↦
            let is_root : from ≡ root = from_is ∙ ap (root_of roots) (sym here) in
            let away : nat_eq goal from ≡ false = ne_eqb goal from (λ same. apart (sym (same ∙ is_root))) in
            let ends : nat_eq goal goal ≡ true = eq-eqb goal goal refl in
            let passes : crosses roots from root goal next ≡ true =
            and_from (nat_eq from root) (not (nat_eq goal from) && nat_eq goal goal) (eq-eqb from root is_root)
            (and_from (not (nat_eq goal from)) (nat_eq goal goal) (not_from_false (nat_eq goal from) away) ends) in
            let had : list_any (λ other. nat_eq other next) nodes ≡ true =
            ap (list_any (λ other. nat_eq other next)) (is ∙ ap (successors graph) (sym here)) ∙ led in
            added.adds root goal
            ∙ or_right known some (some_passes (crosses roots from root goal) next nodes had passes)
        | inr other ↦
            let lower : node < bound = omega (arith, below, other) in
            added.adds root goal ∙ or_left known some (before.whole node next lower led apart)
      ];
}

-- the root that is read of a node is a node
pub root_read : (rows : List (Vec ℕ Global)) (roots numbers : List ℕ) (node root : ℕ)
    → AreComponents (graph_of rows) roots numbers → node < length rows → root ≡ get_or roots node root
    → (root ≡ root_of roots node) × (root < length (graph_of rows))
root_read rows roots numbers node root are inside is =
    let there : node < length (graph_of rows) = omega (arith, rows_count rows) in
    let at : root ≡ root_of roots node =
    is ∙ get_or_default roots node root node (omega (arith, there, are.count)) in
    (at, omega (arith, at, are.is_node node there))
