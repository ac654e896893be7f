-- What a certificate of components says of a graph, and that a node then reaches itself where an edge stays inside.
use Rattle.std.proofs.Common.{◌≡◌, ℕ, zero, suc, ◌+◌, ◌<◌, ◌≤◌, ◌⊎◌, Bool, true, List, [], ◌∷◌, ◌++◌, refl, sym, ap, ◌∙◌, subst, inl, inr, length, get_or, map, nat_eq, arith}
use Rattle.std.specs.List.{All, list_any, range_with_len}
use Rattle.std.specs.declared.alloc.Global.{Global}
use Rattle.std.specs.declared.vec.Vec.{Vec}
use Rattle.std.proofs.lemmas.Bool.{cases_eq, eqb-true, eq-eqb}
use Rattle.std.proofs.lemmas.List.{get_or-map, length-map, get_or_default}
use Rattle.std.proofs.lemmas.List.Folds.{Any-from_list_any, list_any-from_Any, list_any_at}
use Rattle.std.proofs.lemmas.List.FromFn.{map-range_with_len_more}
use Rattle.abs_graph.specs.Graphs.{Graph, HasNodes, successors, leads, Reaches, in_one, in_more, reaches}
use Rattle.abs_graph.specs.Views.{graph_of}
use Rattle.abs_graph.specs.Certificates.{place_of, IsRise, Rises, HasWays}
use Rattle.abs_graph.specs.declared.certificate.Place.{Place}
use Rattle.abs_graph.proofs.ReachLemmas.{reaches_found, reaches_whole, leads_below}
use Rattle.std.specs.Cmp.{both_ways}

-- an edge has an index among those of its node
lead_index : (graph : Graph) (node next : ℕ) → leads graph node next ≡ true
    → (k : ℕ) × (k < length (successors graph node)) × (get_or (successors graph node) k 0 ≡ next)
lead_index graph node next h =
    let row = successors graph node in
    let some = Any-from_list_any (λ other. nat_eq other next) row h in
    (some.0, some.2, get_or_default row some.0 0 some.1 some.2 ∙ (some.3 ∙ eqb-true some.1 next some.4))

-- an edge leads to a node of the graph
pub lead_end : (graph : Graph) (node next : ℕ) → HasNodes graph → leads graph node next ≡ true → next < length graph
lead_end graph node next nodes h =
    let k = lead_index graph node next h in
    subst (λ (n : ℕ). n < length graph) k.2 (nodes node [] (leads_below graph node next h) k.0 0 k.1)

-- a node reaches what a node that it reaches does
pub reaches_along : (graph : Graph) (goal middle node : ℕ) → Reaches graph goal middle → Reaches graph middle node
    → Reaches graph goal node
reaches_along graph goal middle node on (in_one _ edge) = in_more node middle edge on
reaches_along graph goal middle node on (in_more _ next edge far) =
    in_more node next edge (reaches_along graph goal middle next on far)

-- a node is the root of its component, or reaches it
pub to_root : (graph : Graph) (places : List Place) → HasNodes graph → HasWays graph places → (bound node : ℕ)
    → node < length graph → (place_of places node).toward_rank < bound
    → ((place_of places node).root ≡ node) ⊎ Reaches graph (place_of places node).root node
to_root graph places nodes ways zero node there less = absurd (omega arith)
to_root graph places nodes ways (suc bound) node there less = elim (ways.toward node there) [
  | inl is ↦ inl is
  | inr step ↦
      let next = step.0 in
      let toward = step.1 in
      let root = (place_of places node).root in
      let inside = lead_end graph node next nodes toward.edge in
      let lower : (place_of places next).toward_rank < bound = omega (arith, toward.falls) in
      elim (to_root graph places nodes ways bound next inside lower) [
        | inl is ↦ inr (in_one node (subst (λ (n : ℕ). leads graph node n ≡ true) (sym is ∙ toward.root) toward.edge))
        | inr far ↦ inr (in_more node next toward.edge (subst (λ (n : ℕ). Reaches graph n next) toward.root far))
      ]
]

-- a node is the root of its component, or the root reaches it
pub from_root : (graph : Graph) (places : List Place) → HasWays graph places → (bound node : ℕ)
    → node < length graph → (place_of places node).from_rank < bound
    → ((place_of places node).root ≡ node) ⊎ Reaches graph node (place_of places node).root
from_root graph places ways zero node there less = absurd (omega arith)
from_root graph places ways (suc bound) node there less = elim (ways.from node there) [
  | inl is ↦ inl is
  | inr step ↦
      let before = step.0 in
      let from = step.1 in
      let root = (place_of places node).root in
      let inside = leads_below graph before node from.edge in
      let lower : (place_of places before).from_rank < bound = omega (arith, from.falls) in
      elim (from_root graph places ways bound before inside lower) [
        | inl is ↦ inr (in_one root (subst (λ (n : ℕ). leads graph n node ≡ true) (sym is ∙ from.root) from.edge))
        | inr far ↦ inr (reaches_along graph node before root (in_one before from.edge)
            (subst (λ (n : ℕ). Reaches graph before n) from.root far))
      ]
]

-- along a path the component never falls
pub path_rises : (graph : Graph) (places : List Place) (goal node : ℕ) → Rises graph places → Reaches graph goal node
    → (place_of places node).component ≤ (place_of places goal).component
path_rises graph places goal node rises (in_one _ edge) = (rises.rises node goal edge).never_falls
path_rises graph places goal node rises (in_more _ next edge far) =
    let step = (rises.rises node next edge).never_falls in
    let rest = path_rises graph places goal next rises far in
    omega (arith, step, rest)

-- whether an edge leads from a node to a node with its root
abbrev pub stays : List Place → Graph → ℕ → Bool
stays places graph node =
    list_any (λ next. nat_eq (place_of places next).root (place_of places node).root) (successors graph node)

-- a node that leads to a node with its root reaches itself
back_again : (graph : Graph) (places : List Place) (node next : ℕ) → HasNodes graph → HasWays graph places
    → leads graph node next ≡ true → (place_of places next).root ≡ (place_of places node).root
    → Reaches graph node node
back_again graph places node next nodes ways edge same =
    let root = (place_of places node).root in
    let inside = lead_end graph node next nodes edge in
    let there = leads_below graph node next edge in
    let to = to_root graph places nodes ways (suc (place_of places next).toward_rank) next inside (omega arith) in
    let from = from_root graph places ways (suc (place_of places node).from_rank) node there (omega arith) in
    elim to [
      | inl is ↦
          let at : root ≡ next = sym same ∙ is in
          elim from [
            | inl home ↦ in_one node (subst (λ (n : ℕ). leads graph node n ≡ true) (sym at ∙ home) edge)
            | inr far ↦ in_more node next edge (subst (λ (n : ℕ). Reaches graph node n) at far)
          ]
      | inr near ↦
          let on : Reaches graph root next = subst (λ (n : ℕ). Reaches graph n next) same near in
          elim from [
            | inl home ↦ in_more node next edge (subst (λ (n : ℕ). Reaches graph n next) home on)
            | inr far ↦ in_more node next edge (reaches_along graph node root next far on)
          ]
    ]

-- a node from which an edge stays in its component reaches itself
stays_found : (graph : Graph) (places : List Place) (node : ℕ) → HasNodes graph → HasWays graph places
    → stays places graph node ≡ true → reaches graph node node ≡ true
stays_found graph places node nodes ways h =
    let row = successors graph node in
    let root = (place_of places node).root in
    let some = Any-from_list_any (λ next. nat_eq (place_of places next).root root) row h in
    let next = some.1 in
    let edge : leads graph node next ≡ true =
    list_any-from_Any (λ other. nat_eq other next) row (some.0, next, some.2, some.3, eq-eqb next next refl) in
    reaches_whole graph node node
    (back_again graph places node next nodes ways edge (eqb-true (place_of places next).root root some.4))

-- an edge to a component that is no higher stays in the component
edge_stays : (graph : Graph) (places : List Place) (node next : ℕ) → Rises graph places
    → leads graph node next ≡ true → (place_of places next).component ≤ (place_of places node).component
    → stays places graph node ≡ true
edge_stays graph places node next rises edge low =
    let row = successors graph node in
    let root = (place_of places node).root in
    let at = lead_index graph node next edge in
    let rise = rises.rises node next edge in
    let same : (place_of places node).component ≡ (place_of places next).component =
    omega (arith, rise.never_falls, low) in
    let passes : nat_eq (place_of places next).root root ≡ true =
    eq-eqb (place_of places next).root root (sym (rise.same_root same)) in
    list_any_at (λ other. nat_eq (place_of places other).root root) row at.0 0 at.1
    (subst (λ (n : ℕ). nat_eq (place_of places n).root root ≡ true) (sym at.2) passes)

-- a path to a component that is no higher begins with an edge that stays in the component
path_stays : (graph : Graph) (places : List Place) (goal node : ℕ) → Rises graph places
    → (place_of places goal).component ≤ (place_of places node).component → Reaches graph goal node
    → stays places graph node ≡ true
path_stays graph places goal node rises low (in_one _ edge) = edge_stays graph places node goal rises edge low
path_stays graph places goal node rises low (in_more _ next edge far) =
    let on = path_rises graph places goal next rises far in
    edge_stays graph places node next rises edge (omega (arith, on, low))

-- an edge from a node stays in its component where the node reaches itself
stays_is_reaches : (graph : Graph) (places : List Place) (node : ℕ) → HasNodes graph → Rises graph places
    → HasWays graph places → stays places graph node ≡ reaches graph node node
stays_is_reaches graph places node nodes rises ways =
    let low : (place_of places node).component ≤ (place_of places node).component = omega arith in
    both_ways (stays places graph node) (reaches graph node node) (stays_found graph places node nodes ways)
    (λ h. path_stays graph places node node rises low (reaches_found graph node node h))

-- the nodes to which an edge leads are those of a row
pub row_successors : (rows : List (Vec ℕ Global)) (node : ℕ) (row : Vec ℕ Global) → node < length rows
    → row ≡ get_or rows node row → successors (graph_of rows) node ≡ row.items
row_successors rows node row there is =
    get_or-map (λ (r : Vec ℕ Global). r.items) rows node row [] there
    ∙ ap (λ (r : Vec ℕ Global). r.items) (sym is)

-- No edge of a node below a bound leads to a component with a lower number.
pub record RisesBelow (rows : List (Vec ℕ Global)) (places : List Place) (bound : ℕ) : Type 0 where
  pub rises : (node next : ℕ) → node < bound → leads (graph_of rows) node next ≡ true
      → IsRise (place_of places node) (place_of places next)

-- there is no node below the first one
pub rises_none : (rows : List (Vec ℕ Global)) (places : List Place) → RisesBelow rows places 0
rises_none rows places = record { rises = λ node next below edge. absurd (omega arith) }

-- the edges of one more node were looked at
pub rises_more : {rows : List (Vec ℕ Global)} {places : List Place} {bound : ℕ} (row : Vec ℕ Global) (place : Place)
    (items : List ℕ) → RisesBelow rows places bound → bound < length rows → row ≡ get_or rows bound row
    → place ≡ place_of places bound → items ≡ row.items → All (λ next. IsRise place (place_of places next)) items
    → RisesBelow rows places (bound + 1)
rises_more {rows} {places} {bound} row place items before there is at_place at_items all = record {
  rises = λ node next below edge. elim (cases_eq node bound) [
    | inl here ↦
        let at = lead_index (graph_of rows) node next edge in
        let row_is = ap (successors (graph_of rows)) here ∙ (row_successors rows bound row there is ∙ sym at_items) in
        let short : at.0 < length items = subst (λ (ns : List ℕ). at.0 < length ns) row_is at.1 in
        let end : get_or items at.0 0 ≡ next = ap (λ (ns : List ℕ). get_or ns at.0 0) (sym row_is) ∙ at.2 in
        let place_is : place ≡ place_of places node = at_place ∙ ap (place_of places) (sym here) in
        subst (λ (p : Place). IsRise p (place_of places next)) place_is
        (subst (λ (n : ℕ). IsRise place (place_of places n)) end (all at.0 0 short))
    | inr other ↦ before.rises node next (omega (arith, other)) edge
  ];
}

-- the edges of all nodes were looked at
pub rises_all : (rows : List (Vec ℕ Global)) (places : List Place) (bound : ℕ) → RisesBelow rows places bound
    → length rows ≤ bound → Rises (graph_of rows) places
rises_all rows places bound below over = record {
  rises = λ node next edge.
      let there = leads_below (graph_of rows) node next edge in
      let short = length-map rows (λ (r : Vec ℕ Global). r.items) in
      below.rises node next (omega (arith, there, short)) edge;
}

-- one more node reaches itself, or does not
pub stays_more : (rows : List (Vec ℕ Global)) (places : List Place) (node : ℕ) (row : Vec ℕ Global) (place : Place)
    (items : List ℕ) (b : Bool) (found : List Bool) → HasNodes (graph_of rows) → Rises (graph_of rows) places
    → HasWays (graph_of rows) places → node < length rows → row ≡ get_or rows node row
    → place ≡ place_of places node → items ≡ row.items
    → b ≡ list_any (λ next. nat_eq (place_of places next).root place.root) items
    → found ≡ map (λ n. reaches (graph_of rows) n n) (range_with_len 0 node)
    → found ++ b ∷ [] ≡ map (λ n. reaches (graph_of rows) n n) (range_with_len 0 (node + 1))
stays_more rows places node row place items b found nodes rises ways there is at_place at_items test so_far =
    let graph = graph_of rows in
    let whether = λ (n : ℕ). reaches graph n n in
    let row_is : items ≡ successors graph node = at_items ∙ sym (row_successors rows node row there is) in
    let reported : b ≡ reaches graph node node =
    test
    ∙ (ap (λ (p : Place). list_any (λ next. nat_eq (place_of places next).root p.root) items) at_place
    ∙ (ap (list_any (λ next. nat_eq (place_of places next).root (place_of places node).root)) row_is
    ∙ stays_is_reaches graph places node nodes rises ways)) in
    ap (λ (x : Bool). found ++ x ∷ []) reported
    ∙ (ap (λ (xs : List Bool). xs ++ reaches graph node node ∷ []) so_far
    ∙ sym (map-range_with_len_more whether 0 node node (omega arith)))
