-- The tables of a network.
--
--   `exits_more`, `exits_all`          the exits of the pairs, in a loop
--   `exits_within`                     they are within the nodes
--   `linked_by_tables`                 they tell which pairs are linked
use Rattle.std.proofs.Common.{◌≡◌, ◌∙◌, ◌↔◌, ℕ, ◌+◌, ◌<◌, ◌≤◌, List, [], ◌∷◌, ◌++◌, length, get_or, take, slice_get, Some, All, Contains, sym, subst}
use Rattle.list_facts.proofs.EntryLemmas.{take-found}
use Rattle.std.proofs.lemmas.List.{map_push, take_all}
use Rattle.std.proofs.lemmas.List.Elements.{All-cons, All-nil, Contains-get_or}
use Rattle.std.proofs.lemmas.Option.{get_or_from_slice_get, same_Some, slice_get_within}
use Rattle.std.specs.List.{AllZip}
use Rattle.std.specs.declared.alloc.Global.{Global}
use Rattle.std.specs.declared.vec.Vec.{Vec}
use Rattle.abs_graph.specs.Graphs.{Graph, successors}
use Rattle.abs_graph.specs.Views.{graph_of}
use Rattle.abs_tree.specs.Syntax.{ProgramTree}
use Rattle.circularity_test.proofs.EdgeLemmas.{leads_as_linked}
use Rattle.circularity_test.proofs.NodeLemmas.{zip_at, zip_both, zip_push}
use Rattle.circularity_test.specs.Network.{AreLed, AreNumbers, LeadsAs, LeadsTo, node_of}
use Rattle.circularity_test.specs.declared.network.Node.{Node}
use Rattle.contract_terms.specs.PairLinks.{IsLinked}
use Rattle.contract_terms.specs.declared.pair.Pair.{Pair}
use Rattle.name_bounding.specs.declared.kind.Kind.{Kind}

module _ (program : ProgramTree) (nodes : List Node) (component : Pair → ℕ) where
  -- one pair more has its exits
  pub exits_more : (pairs : List Pair) (exits : List (Vec ℕ Global)) (index : ℕ) (pair : Pair) (row : Vec ℕ Global)
      → slice_get pairs index ≡ Some pair → AreLed program nodes pair.target (component pair) row.items
      → AllZip (LeadsAs program nodes component) (take index pairs) (graph_of exits)
      → AllZip (LeadsAs program nodes component) (take (index + 1) pairs) (graph_of (exits ++ row ∷ []))
  exits_more pairs exits index pair row there led all =
      subst (λ part. AllZip (LeadsAs program nodes component) part (graph_of (exits ++ row ∷ [])))
      (sym (take-found pairs index pair there))
      (subst (AllZip (LeadsAs program nodes component) (take index pairs ++ pair ∷ []))
      (sym (map_push (λ (one : Vec ℕ Global). one.items) exits row))
      (zip_push (LeadsAs program nodes component) (take index pairs) (graph_of exits) pair row.items all led))

  -- all pairs have their exits
  pub exits_all : (pairs : List Pair) (exits : Graph) (index : ℕ) → length pairs ≤ index
      → AllZip (LeadsAs program nodes component) (take index pairs) exits
      → AllZip (LeadsAs program nodes component) pairs exits
  exits_all pairs exits index over all =
      subst (λ part. AllZip (LeadsAs program nodes component) part exits) (take_all index pairs over) all

  -- where a kind leads is within the nodes
  led_within : (kind : Kind) (its : ℕ) (numbers : List ℕ) → AreLed program nodes kind its numbers
      → All (λ number. number < length nodes) numbers
  led_within kind its numbers led = λ index other within.
      let it = (led (get_or numbers index other)).0 (Contains-get_or numbers index other within) in
      slice_get_within nodes (get_or numbers index other) it.one it.there

  -- exits are within the nodes
  pub exits_within : (pairs : List Pair) (exits : Graph) → AllZip (LeadsAs program nodes component) pairs exits
      → All (λ row. All (λ number. number < length nodes) row) exits
  exits_within [] [] all = All-nil (λ row. All (λ number. number < length nodes) row)
  exits_within [] (row ∷ exits) all = absurd all
  exits_within (pair ∷ pairs) [] all = absurd all
  exits_within (pair ∷ pairs) (row ∷ exits) all =
      All-cons (λ one. All (λ number. number < length nodes) one) row exits (led_within pair.target (component pair) row all.0)
      (exits_within pairs exits all.1)

  -- from one pair to another there is a link just where the exits of the one have the node of the other
  pub linked_by_tables : (pairs : List Pair) (entries : List ℕ) (exits : Graph)
      → AreNumbers (node_of component) pairs nodes entries → AllZip (LeadsAs program nodes component) pairs exits
      → (from to entry : ℕ) (one other : Pair) → slice_get pairs from ≡ Some one → slice_get pairs to ≡ Some other
      → slice_get entries to ≡ Some entry → Contains (successors exits from) entry
      ↔ (IsLinked program one other × (component one ≡ component other))
  linked_by_tables pairs entries exits enter all from to entry one other here there waits =
      let row = zip_at (LeadsAs program nodes component) pairs exits all from one here in
      let row_is : successors exits from ≡ row.0 = get_or_from_slice_get exits from row.0 [] row.1 in
      let at : slice_get nodes entry ≡ Some (node_of component other) =
      zip_both (λ (item : Pair) (number : ℕ). slice_get nodes number ≡ Some (node_of component item)) pairs entries
      enter to other entry there waits in (
        (λ inside.
            let led = (row.2 entry).0 (subst (λ list. Contains list entry) row_is inside) in
            (leads_as_linked program component one other).0
            (subst (LeadsTo program one.target (component one))
            (same_Some led.one (node_of component other) (sym led.there ∙ at)) led.leads)),
        (λ linked. subst (λ list. Contains list entry) (sym row_is)
            ((row.2 entry).1 (record {
              one = node_of component other;
              there = at;
              leads = (leads_as_linked program component one other).1 linked;
            }))),
      )
