-- The roots and numbers of checked places are those of the components of the graph.
use Rattle.std.proofs.Common.{◌≡◌, ℕ, zero, suc, ◌+◌, ◌<◌, ◌≤◌, ◌⊎◌, true, ◌||◌, ◌&&◌, List, sym, ap, ◌∙◌, subst, inl, inr, length, set, nat_eq, arith, eq-eqb, eqb-true}
use Rattle.std.specs.Cmp.{both_ways}
use Rattle.std.proofs.lemmas.Bool.{cases_eq, cases_lt, or_left, or_right, or_cases, and_from, and_parts}
use Rattle.std.proofs.lemmas.List.{get_or_past, get_or-set_same, get_or-set_other, length-set}
use Rattle.abs_graph.specs.Certificates.{place_of, Rises, HasWays}
use Rattle.abs_graph.specs.Components.{AreComponents, root_of, number_of}
use Rattle.abs_graph.specs.Graphs.{Graph, HasNodes, Reaches, in_one, in_more, reaches}
use Rattle.abs_graph.specs.declared.certificate.Place.{Place}
use Rattle.abs_graph.proofs.CertificateLemmas.{lead_end, reaches_along, to_root, from_root, path_rises}
use Rattle.abs_graph.proofs.ReachLemmas.{leads_below, reaches_found, reaches_whole}

-- Below a bound the roots and numbers are those of the places.
pub record ArePlaced (places : List Place) (roots numbers : List ℕ) (nodes bound : ℕ) : Type 0 where
  pub roots_count : length roots ≡ nodes
  pub numbers_count : length numbers ≡ nodes
  pub root : (node : ℕ) → node < bound → root_of roots node ≡ (place_of places node).root
  pub number : (node : ℕ) → node < bound → number_of numbers node ≡ (place_of places node).component

-- there is no node below the first one
pub placed_none : (places : List Place) (roots numbers : List ℕ) (nodes : ℕ) → length roots ≡ nodes
    → length numbers ≡ nodes → ArePlaced places roots numbers nodes 0
placed_none places roots numbers nodes roots_count numbers_count = record {
  roots_count = roots_count;
  numbers_count = numbers_count;
  root = λ node below. absurd (omega arith);
  number = λ node below. absurd (omega arith);
}

-- one more node was placed
pub placed_more : (places : List Place) (roots numbers : List ℕ) (nodes bound root number : ℕ)
    → ArePlaced places roots numbers nodes bound → bound < nodes → root ≡ (place_of places bound).root
    → number ≡ (place_of places bound).component
    → ArePlaced places (set roots bound root) (set numbers bound number) nodes (bound + 1)
placed_more places roots numbers nodes bound root number before inside root_is number_is =
    let at_root : bound < length roots = omega (arith, before.roots_count) in
    let at_number : bound < length numbers = omega (arith, before.numbers_count) in
    record {
      roots_count = length-set roots bound root ∙ before.roots_count;
      numbers_count = length-set numbers bound number ∙ before.numbers_count;
      root = λ node below. elim (cases_eq node bound) [
        | inl here ↦
            ap (root_of (set roots bound root)) here
            ∙ (get_or-set_same roots bound root bound at_root
            ∙ (root_is ∙ ap (λ (n : ℕ). (place_of places n).root) (sym here)))
        | inr away ↦
            get_or-set_other roots bound node root node away ∙ before.root node (omega (arith, below, away))
      ];
      number = λ node below. elim (cases_eq node bound) [
        | inl here ↦
            ap (number_of (set numbers bound number)) here
            ∙ (get_or-set_same numbers bound number 0 at_number
            ∙ (number_is ∙ ap (λ (n : ℕ). (place_of places n).component) (sym here)))
        | inr away ↦
            get_or-set_other numbers bound node number 0 away ∙ before.number node (omega (arith, below, away))
      ];
    }

-- the root of a node's place is a node, and its own root
root_home : (graph : Graph) (places : List Place) → HasNodes graph → HasWays graph places → (bound node : ℕ)
    → node < length graph → (place_of places node).toward_rank < bound
    → ((place_of places node).root < length graph)
    × ((place_of places (place_of places node).root).root ≡ (place_of places node).root)
root_home graph places nodes ways zero node there less = absurd (omega arith)
root_home graph places nodes ways (suc bound) node there less = elim (ways.toward node there) [
  | inl is ↦
      (subst (λ (n : ℕ). n < length graph) (sym is) there, ap (λ (n : ℕ). (place_of places n).root) is)
  | inr step ↦
      let next = step.0 in
      let toward = step.1 in
      let inside = lead_end graph node next nodes toward.edge in
      let lower : (place_of places next).toward_rank < bound = omega (arith, toward.falls) in
      let home = root_home graph places nodes ways bound next inside lower in (
        subst (λ (n : ℕ). n < length graph) toward.root home.0,
        subst (λ (n : ℕ). (place_of places n).root ≡ n) toward.root home.1,
      )
]

-- a node is one of the same root, or reaches it
joined : (graph : Graph) (places : List Place) → HasNodes graph → HasWays graph places → (node other : ℕ)
    → node < length graph → other < length graph → (place_of places node).root ≡ (place_of places other).root
    → (node ≡ other) ⊎ Reaches graph other node
joined graph places nodes ways node other inside there same =
    let root = (place_of places node).root in
    let to = to_root graph places nodes ways (suc (place_of places node).toward_rank) node inside (omega arith) in
    let from = from_root graph places ways (suc (place_of places other).from_rank) other there (omega arith) in
    elim to [
      | inl is ↦ elim from [
        | inl home ↦ inl (sym is ∙ (same ∙ home))
        | inr far ↦ inr (subst (λ (n : ℕ). Reaches graph other n) (sym same ∙ is) far)
      ]
      | inr near ↦ elim from [
        | inl home ↦ inr (subst (λ (n : ℕ). Reaches graph n node) (same ∙ home) near)
        | inr far ↦ inr (reaches_along graph other root node
            (subst (λ (n : ℕ). Reaches graph other n) (sym same) far) near)
      ]
    ]

-- along a path to a component that is no higher the root stays
path_root : (graph : Graph) (places : List Place) (goal node : ℕ) → Rises graph places
    → (place_of places goal).component ≤ (place_of places node).component → Reaches graph goal node
    → (place_of places node).root ≡ (place_of places goal).root
path_root graph places goal node rises low (in_one _ edge) =
    let rise = rises.rises node goal edge in
    rise.same_root (omega (arith, rise.never_falls, low))
path_root graph places goal node rises low (in_more _ next edge far) =
    let rise = rises.rises node next edge in
    let on = path_rises graph places goal next rises far in
    rise.same_root (omega (arith, rise.never_falls, on, low))
    ∙ path_root graph places goal next rises (omega (arith, rise.never_falls, low)) far

-- only a node reaches another one
start_inside : (graph : Graph) (goal node : ℕ) → Reaches graph goal node → node < length graph
start_inside graph goal node (in_one _ edge) = leads_below graph node goal edge
start_inside graph goal node (in_more _ next edge far) = leads_below graph node next edge

-- a number past the nodes is its own root
root_past : (graph : Graph) (places : List Place) (roots numbers : List ℕ) (node : ℕ)
    → ArePlaced places roots numbers (length graph) (length graph) → length graph ≤ node → root_of roots node ≡ node
root_past graph places roots numbers node placed past =
    let short : length roots ≤ node = omega (arith, placed.roots_count) in
    get_or_past roots node node short

-- nodes of one root are one, or each reaches the other
same_found : (graph : Graph) (places : List Place) (roots numbers : List ℕ) → HasNodes graph → HasWays graph places
    → ArePlaced places roots numbers (length graph) (length graph) → (node other : ℕ)
    → root_of roots node ≡ root_of roots other
    → (nat_eq node other || (reaches graph node other && reaches graph other node)) ≡ true
same_found graph places roots numbers nodes ways placed node other same =
    let each = reaches graph node other && reaches graph other node in
    let root = λ (n : ℕ). (place_of places n).root in
    elim (cases_lt node (length graph)) [
      | inl inside ↦ elim (cases_lt other (length graph)) [
        | inl there ↦
            let is : root node ≡ root other = sym (placed.root node inside) ∙ (same ∙ placed.root other there) in
            elim (joined graph places nodes ways node other inside there is) [
              | inl one ↦ or_left (nat_eq node other) each (eq-eqb node other one)
              | inr far ↦ elim (joined graph places nodes ways other node there inside (sym is)) [
                | inl one ↦ or_left (nat_eq node other) each (eq-eqb node other (sym one))
                | inr back ↦
                    or_right (nat_eq node other) each (and_from (reaches graph node other) (reaches graph other node)
                    (reaches_whole graph node other far) (reaches_whole graph other node back))
              ]
            ]
        | inr past ↦
            let home = root_home graph places nodes ways (suc (place_of places node).toward_rank) node inside
            (omega arith) in
            let at = placed.root node inside in
            let away = root_past graph places roots numbers other placed past in
            absurd (omega (arith, home.0, at, away, same))
      ]
      | inr past ↦ elim (cases_lt other (length graph)) [
        | inl there ↦
            let home = root_home graph places nodes ways (suc (place_of places other).toward_rank) other there
            (omega arith) in
            let at = placed.root other there in
            let away = root_past graph places roots numbers node placed past in
            absurd (omega (arith, home.0, at, away, same))
        | inr beyond ↦
            or_left (nat_eq node other) each (eq-eqb node other
            (sym (root_past graph places roots numbers node placed past)
            ∙ (same ∙ root_past graph places roots numbers other placed beyond)))
      ]
    ]

-- nodes that are one or reach each other have one root
same_whole : (graph : Graph) (places : List Place) (roots numbers : List ℕ) → Rises graph places
    → ArePlaced places roots numbers (length graph) (length graph) → (node other : ℕ)
    → (nat_eq node other || (reaches graph node other && reaches graph other node)) ≡ true
    → root_of roots node ≡ root_of roots other
same_whole graph places roots numbers rises placed node other reported =
    elim (or_cases (nat_eq node other) (reaches graph node other && reaches graph other node) reported) [
      | inl one ↦ ap (root_of roots) (eqb-true node other one)
      | inr each ↦
          let both = and_parts (reaches graph node other) (reaches graph other node) each in
          let far = reaches_found graph node other both.0 in
          let back = reaches_found graph other node both.1 in
          let low = path_rises graph places node other rises back in
          placed.root node (start_inside graph other node far)
          ∙ (path_root graph places other node rises low far
          ∙ sym (placed.root other (start_inside graph node other back)))
    ]

-- the root of a node has its own root
own_root : (graph : Graph) (places : List Place) (roots numbers : List ℕ) → HasNodes graph → HasWays graph places
    → ArePlaced places roots numbers (length graph) (length graph) → (node : ℕ)
    → root_of roots (root_of roots node) ≡ root_of roots node
own_root graph places roots numbers nodes ways placed node = elim (cases_lt node (length graph)) [
  | inl inside ↦
      let root = (place_of places node).root in
      let at : root_of roots node ≡ root = placed.root node inside in
      let home = root_home graph places nodes ways (suc (place_of places node).toward_rank) node inside (omega arith) in
      ap (root_of roots) at ∙ (placed.root root home.0 ∙ (home.1 ∙ sym at))
  | inr past ↦ ap (root_of roots) (root_past graph places roots numbers node placed past)
]

-- the roots and numbers of checked places are those of the components
pub placed_components : (graph : Graph) (places : List Place) (roots numbers : List ℕ) (bound : ℕ) → HasNodes graph
    → Rises graph places → HasWays graph places → ArePlaced places roots numbers (length graph) bound
    → length graph ≤ bound → AreComponents graph roots numbers
placed_components graph places roots numbers bound nodes rises ways below over =
    let placed : ArePlaced places roots numbers (length graph) (length graph) = record {
      roots_count = below.roots_count;
      numbers_count = below.numbers_count;
      root = λ node inside. below.root node (omega (arith, inside, over));
      number = λ node inside. below.number node (omega (arith, inside, over));
    } in
    record {
      count = placed.roots_count;
      is_node = λ node inside.
          let rank = (place_of places node).toward_rank in
          let home = root_home graph places nodes ways (suc rank) node inside (omega arith) in
          subst (λ (n : ℕ). n < length graph) (sym (placed.root node inside)) home.0;
      own_root = own_root graph places roots numbers nodes ways placed;
      same_root = λ node other. both_ways (nat_eq (root_of roots node) (root_of roots other))
          (nat_eq node other || (reaches graph node other && reaches graph other node))
          (λ same. same_found graph places roots numbers nodes ways placed node other
          (eqb-true (root_of roots node) (root_of roots other) same))
          (λ reported. eq-eqb (root_of roots node) (root_of roots other)
          (same_whole graph places roots numbers rises placed node other reported));
      never_falls = λ node next edge.
          let from = placed.number node (leads_below graph node next edge) in
          let to = placed.number next (lead_end graph node next nodes edge) in
          let rise = (rises.rises node next edge).never_falls in
          omega (arith, from, to, rise);
      rises = λ node next edge apart.
          let inside = leads_below graph node next edge in
          let there = lead_end graph node next nodes edge in
          let from = placed.number node inside in
          let to = placed.number next there in
          let rise = rises.rises node next edge in
          elim (cases_eq (place_of places node).component (place_of places next).component) [
            | inl same ↦
                absurd (apart (placed.root node inside ∙ (rise.same_root same ∙ sym (placed.root next there))))
            | inr other ↦ let low = rise.never_falls in omega (arith, from, to, low, other)
          ];
    }
