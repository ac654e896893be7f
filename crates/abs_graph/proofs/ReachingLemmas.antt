-- That a search finds the nodes that reach a marked one: those that it finds do, and none is missing.
use Rattle.std.proofs.Common.{◌≡◌, ℕ, ◌+◌, ◌<◌, ◌≤◌, Bool, true, false, ◌&&◌, ◌⊎◌, List, [], ◌∷◌, ◌++◌, sym, ap, ◌∙◌, subst, inl, inr, ⊎_elim, length, get_or, set, map, nat_eq, arith, true≢false}
use Rattle.std.specs.List.{list_any, range_with_len}
use Rattle.std.specs.declared.alloc.Global.{Global}
use Rattle.std.specs.declared.vec.Vec.{Vec}
use Rattle.std.proofs.lemmas.Bool.{cases_lt, cases_eq, or_left, or_right, or_cases, and_from}
use Rattle.std.proofs.lemmas.List.{get_or_past, get_or-set_other, length-map}
use Rattle.std.proofs.lemmas.List.Folds.{list_any_at}
use Rattle.std.proofs.lemmas.List.FromFn.{length-range_with_len, get_or-range_with_len, fill_by_all, length-map-range_with_len, get_or-map-range_with_len, map-range_with_len_more}
use Rattle.abs_graph.specs.Graphs.{Graph, HasNodes, successors, leads, Reaches, reaches, is_marked, reaches_marked, reach_marked}
use Rattle.abs_graph.specs.Graphs.Reaches.{in_one, in_more}
use Rattle.abs_graph.specs.Reaching.{IsSound, KeepsSound, IsClosedAt, IsClosed}
use Rattle.abs_graph.specs.Views.{graph_of}
use Rattle.abs_graph.proofs.CertificateLemmas.{lead_end, row_successors}
use Rattle.abs_graph.proofs.ReachLemmas.{reaches_found, reaches_whole, some_passes, passing, leads_below}
use Rattle.std.specs.Cmp.{both_ways, first_so, second_so}

-- a node that reaches a marked one
record ToMarked (graph : Graph) (marked : List Bool) (node : ℕ) : Type 0 where
  goal : ℕ
  marks : is_marked marked goal ≡ true
  reached : Reaches graph goal node

-- a path ends at a node
reached_node : (graph : Graph) (goal node : ℕ) → HasNodes graph → Reaches graph goal node → goal < length graph
reached_node graph goal node nodes (in_one _ led) = lead_end graph node goal nodes led
reached_node graph goal node nodes (in_more _ next led far) = reached_node graph goal next nodes far

-- a marked node is reported
reported_marked : (graph : Graph) (marked : List Bool) (node : ℕ) → is_marked marked node ≡ true
    → reaches_marked graph marked node ≡ true
unfolding reaches_marked
reported_marked graph marked node marks =
    or_left (is_marked marked node)
    (list_any (λ goal. is_marked marked goal && reaches graph node goal) (range_with_len 0 (length graph))) marks

-- a node that reaches a marked one is reported
reported_reaching : (graph : Graph) (marked : List Bool) (node : ℕ) → HasNodes graph → ToMarked graph marked node
    → reaches_marked graph marked node ≡ true
unfolding reaches_marked
reported_reaching graph marked node nodes to =
    let test : ℕ → Bool = λ goal. is_marked marked goal && reaches graph node goal in
    let inside : to.goal < length graph = reached_node graph to.goal node nodes to.reached in
    let count = length-range_with_len 0 (length graph) in
    let at : get_or (range_with_len 0 (length graph)) to.goal 0 ≡ to.goal =
    get_or-range_with_len 0 (length graph) to.goal 0 inside ∙ omega arith in
    let passes : test to.goal ≡ true =
    and_from (is_marked marked to.goal) (reaches graph node to.goal) to.marks
    (reaches_whole graph node to.goal to.reached) in
    or_right (is_marked marked node) (list_any test (range_with_len 0 (length graph)))
    (list_any_at test (range_with_len 0 (length graph)) to.goal 0 (omega (arith, inside, count))
    (subst (λ (n : ℕ). test n ≡ true) (sym at) passes))

-- what is reported of a node
reported_cases : (graph : Graph) (marked : List Bool) (node : ℕ) → reaches_marked graph marked node ≡ true
    → (is_marked marked node ≡ true) ⊎ ToMarked graph marked node
unfolding reaches_marked
reported_cases graph marked node reported = ⊎_elim
    (λ here. inl here)
    (λ far.
    let some = passing (λ goal. is_marked marked goal && reaches graph node goal) (range_with_len 0 (length graph)) far
    in
    inr (record {
      goal = some.item;
      marks = first_so (is_marked marked some.item) (reaches graph node some.item) some.passes;
      reached = reaches_found graph node some.item
          (second_so (is_marked marked some.item) (reaches graph node some.item) some.passes);
    }))
    (or_cases (is_marked marked node)
    (list_any (λ goal. is_marked marked goal && reaches graph node goal) (range_with_len 0 (length graph))) reported)

-- an edge to a node that is reported
reported_step : (graph : Graph) (marked : List Bool) (node next : ℕ) → HasNodes graph → leads graph node next ≡ true
    → reaches_marked graph marked next ≡ true → reaches_marked graph marked node ≡ true
reported_step graph marked node next nodes led reported = reported_reaching graph marked node nodes (⊎_elim
    (λ here. record { goal = next; marks = here; reached = in_one node led })
    (λ far. record { goal = far.goal; marks = far.marks; reached = in_more node next led far.reached })
    (reported_cases graph marked next reported))

-- nothing was found
pub keeps_same : (graph : Graph) (found : List Bool) → KeepsSound graph found found
keeps_same graph found = record { keeps = λ marked sound. sound }

-- one search after another
pub keeps_then : (graph : Graph) (old middle new : List Bool) → KeepsSound graph old middle
    → KeepsSound graph middle new → KeepsSound graph old new
keeps_then graph old middle new first second = record {
  keeps = λ marked sound. second.keeps marked (first.keeps marked sound);
}

-- a node is found by its edge to a found node
pub keeps_more : (graph : Graph) (found : List Bool) (node next : ℕ) → HasNodes graph → leads graph node next ≡ true
    → is_marked found next ≡ true → KeepsSound graph found (set found node true)
keeps_more graph found node next nodes led has = record {
  keeps = λ marked sound. record {
    tells = λ other reported. elim (cases_eq other node) [
      | inl here ↦
          subst (λ (n : ℕ). reaches_marked graph marked n ≡ true) (sym here)
          (reported_step graph marked node next nodes led (sound.tells next has))
      | inr away ↦ sound.tells other (sym (get_or-set_other found node other true false away) ∙ reported)
    ];
  };
}

-- the marks of a graph's nodes are sound
marks_sound : (graph : Graph) (marked : List Bool) (count : ℕ)
    → IsSound graph marked (map (is_marked marked) (range_with_len 0 count))
marks_sound graph marked count = record {
  tells = λ node reported. elim (cases_lt node count) [
    | inl less ↦
        reported_marked graph marked node
        (sym (get_or-map-range_with_len (is_marked marked) 0 count node node false less (omega arith)) ∙ reported)
    | inr over ↦
        let long = length-map-range_with_len (is_marked marked) 0 count in
        let none =
        get_or_past (map (is_marked marked) (range_with_len 0 count)) node false (omega (arith, over, long)) in
        absurd (true≢false (sym reported ∙ none))
  ];
}

-- there is no node below the first one
pub closed_none : (graph : Graph) (marked found : List Bool) → IsClosed graph marked found 0
closed_none graph marked found = record {
  marks = λ node below. absurd (omega arith);
  steps = λ node next below. absurd (omega arith);
}

-- the marks and edges of one more node were looked at
pub closed_more : (rows : List (Vec ℕ Global)) (marked found : List Bool) (node : ℕ) (row : Vec ℕ Global)
    (items : List ℕ) → IsClosed (graph_of rows) marked found node → node < length rows → row ≡ get_or rows node row
    → items ≡ row.items → IsClosedAt marked found node items → IsClosed (graph_of rows) marked found (node + 1)
closed_more rows marked found node row items before inside is at closed =
    let graph = graph_of rows in
    let row_is : successors graph node ≡ items = row_successors rows node row inside is ∙ sym at in
    record {
      marks = λ other below reported. elim (cases_eq other node) [
        | inl here ↦
            subst (λ (n : ℕ). is_marked found n ≡ true) (sym here)
            (closed.mark (subst (λ (n : ℕ). is_marked marked n ≡ true) here reported))
        | inr away ↦ before.marks other (omega (arith, away)) reported
      ];
      steps = λ other next below led reported. elim (cases_eq other node) [
        | inl here ↦
            let edge : list_any (λ end. nat_eq end next) items ≡ true =
            subst (λ (ns : List ℕ). list_any (λ end. nat_eq end next) ns ≡ true)
            (ap (successors graph) here ∙ row_is) led in
            subst (λ (n : ℕ). is_marked found n ≡ true) (sym here)
            (closed.step (some_passes (is_marked found) next items edge reported))
        | inr away ↦ before.steps other next (omega (arith, away)) led reported
      ];
    }

-- a node that reaches a found node was found
closed_path : (graph : Graph) (marked found : List Bool) (bound goal node : ℕ) → IsClosed graph marked found bound
    → length graph ≤ bound → is_marked found goal ≡ true → Reaches graph goal node → is_marked found node ≡ true
closed_path graph marked found bound goal node closed whole has (in_one _ led) =
    let inside = leads_below graph node goal led in
    closed.steps node goal (omega (arith, inside, whole)) led has
closed_path graph marked found bound goal node closed whole has (in_more _ next led far) =
    let inside = leads_below graph node next led in
    closed.steps node next (omega (arith, inside, whole)) led
    (closed_path graph marked found bound goal next closed whole has far)

-- a node that is reported was found
closed_reported : (graph : Graph) (marked found : List Bool) (bound node : ℕ) → HasNodes graph
    → IsClosed graph marked found bound → length graph ≤ bound → node < length graph
    → reaches_marked graph marked node ≡ true → is_marked found node ≡ true
closed_reported graph marked found bound node nodes closed whole inside reported = ⊎_elim
    (λ here. closed.marks node (omega (arith, inside, whole)) here)
    (λ to.
    let end = reached_node graph to.goal node nodes to.reached in
    closed_path graph marked found bound to.goal node closed whole
    (closed.marks to.goal (omega (arith, end, whole)) to.marks) to.reached)
    (reported_cases graph marked node reported)

-- a search that is sound and closed finds just the nodes that are reported
found_all : (graph : Graph) (marked found : List Bool) (bound : ℕ) → HasNodes graph
    → length found ≡ length graph → IsSound graph marked found → IsClosed graph marked found bound
    → length graph ≤ bound → found ≡ reach_marked graph marked
found_all graph marked found bound nodes count sound closed whole =
    fill_by_all (reaches_marked graph marked) found (length graph) false count
    (λ node inside. both_ways (is_marked found node) (reaches_marked graph marked node) (sound.tells node)
    (closed_reported graph marked found bound node nodes closed whole inside))

-- what a search finds that begins with the marks, once it was checked
pub search_found : (rows : List (Vec ℕ Global)) (marked first start found checked : List Bool)
    → HasNodes (graph_of rows) → first ≡ map (is_marked marked) (range_with_len 0 (length rows)) → start ≡ first
    → KeepsSound (graph_of rows) start found → length found ≡ length start → checked ≡ found
    → IsClosed (graph_of rows) marked checked (length rows) → found ≡ reach_marked (graph_of rows) marked
search_found rows marked first start found checked nodes marks is kept same same_checked closed =
    let graph = graph_of rows in
    let begun : start ≡ map (is_marked marked) (range_with_len 0 (length rows)) = is ∙ marks in
    let many = length-map rows (λ (row : Vec ℕ Global). row.items) in
    let long : length start ≡ length rows =
    ap (λ (bs : List Bool). length bs) begun ∙ length-map-range_with_len (is_marked marked) 0 (length rows) in
    let sound = kept.keeps marked
    (subst (IsSound graph marked) (sym begun) (marks_sound graph marked (length rows))) in
    found_all graph marked found (length rows) nodes (omega (arith, same, long, many)) sound
    (subst (λ (bs : List Bool). IsClosed graph marked bs (length rows)) same_checked closed) (omega (arith, many))

-- the marks of one more node
pub marks_more : (marked found new : List Bool) (node : ℕ) (b : Bool) → new ≡ found ++ b ∷ []
    → found ≡ map (is_marked marked) (range_with_len 0 node) → b ≡ is_marked marked node
    → new ≡ map (is_marked marked) (range_with_len 0 (node + 1))
marks_more marked found new node b pushed so_far reported =
    pushed
    ∙ (ap (λ (bs : List Bool). bs ++ b ∷ []) so_far
    ∙ (ap (λ (x : Bool). map (is_marked marked) (range_with_len 0 node) ++ x ∷ []) reported
    ∙ sym (map-range_with_len_more (is_marked marked) 0 node node (omega arith))))
