-- A graph and the graph of its roots: which nodes reach which in the one is settled by the other.
use Rattle.std.proofs.Common.{◌≡◌, ℕ, ◌<◌, ◌≤◌, ◌⊎◌, Bool, true, false, ◌||◌, ◌&&◌, List, [], refl, sym, ap, ◌∙◌, subst, inl, inr, length, get_or, nat_eq, arith, eq-eqb, eqb-true}
use Rattle.std.specs.Cmp.{both_ways}
use Rattle.std.specs.List.{All}
use Rattle.std.proofs.lemmas.Bool.{cases_eq, cases_lt, or_right, or_cases, and_from, and_parts, false_from_ne_true}
use Rattle.std.proofs.lemmas.List.{get_or_past, get_or_default}
use Rattle.std.proofs.lemmas.List.Folds.{list_any_at}
use Rattle.std.proofs.lemmas.List.FromFn.{get_or-map-range_with_len, length-map-range_with_len}
use Rattle.abs_graph.specs.Components.{AreComponents, root_of}
use Rattle.abs_graph.specs.Graphs.{Graph, HasNodes, successors, leads, Reaches, in_one, in_more, reaches, on_cycles, is_marked}
use Rattle.abs_graph.specs.RootEdges.{AreRootEdges}
use Rattle.abs_graph.proofs.CertificateLemmas.{lead_end, reaches_along}
use Rattle.abs_graph.proofs.ReachLemmas.{reaches_found, reaches_whole}
use Rattle.abs_graph.proofs.TableLemmas.{reaches_past}

-- nodes of one root are one, or the first reaches the other
within : (graph : Graph) (roots numbers : List ℕ) → AreComponents graph roots numbers → (one other : ℕ)
    → root_of roots one ≡ root_of roots other → (one ≡ other) ⊎ Reaches graph other one
within graph roots numbers are one other same =
    let each = reaches graph one other && reaches graph other one in
    let reported : (nat_eq one other || each) ≡ true =
    sym (are.same_root one other) ∙ eq-eqb (root_of roots one) (root_of roots other) same in
    elim (or_cases (nat_eq one other) each reported) [
      | inl is ↦ inl (eqb-true one other is)
      | inr both ↦
          let parts = and_parts (reaches graph one other) (reaches graph other one) both in
          inr (reaches_found graph one other parts.0)
    ]

-- a path with a way before it
way_before : (graph : Graph) (goal node one : ℕ) → (one ≡ node) ⊎ Reaches graph node one → Reaches graph goal node
    → Reaches graph goal one
way_before graph goal node one near far = elim near [
  | inl is ↦ subst (λ (n : ℕ). Reaches graph goal n) (sym is) far
  | inr path ↦ reaches_along graph goal node one far path
]

-- a path with a way after it
way_after : (graph : Graph) (goal node one : ℕ) → Reaches graph node one → (node ≡ goal) ⊎ Reaches graph goal node
    → Reaches graph goal one
way_after graph goal node one path far = elim far [
  | inl is ↦ subst (λ (n : ℕ). Reaches graph n one) is path
  | inr on ↦ reaches_along graph goal node one on path
]

-- where a root reaches another one, each node of the first reaches each of the other
roots_found : (graph : Graph) (roots numbers : List ℕ) (edges : Graph) → AreComponents graph roots numbers
    → AreRootEdges graph roots edges → (goal root : ℕ) → Reaches edges goal root → (one other : ℕ)
    → root_of roots one ≡ root → root_of roots other ≡ goal → Reaches graph other one
roots_found graph roots numbers edges are between goal root (in_one _ led) one other one_is other_is =
    let step = between.found root goal led in
    way_before graph other step.node one
    (within graph roots numbers are one step.node (one_is ∙ sym step.from))
    (way_after graph other step.next step.node (in_one step.node step.edge)
    (within graph roots numbers are step.next other (step.to ∙ sym other_is)))
roots_found graph roots numbers edges are between goal root (in_more _ middle led far) one other one_is other_is =
    let step = between.found root middle led in
    way_before graph other step.node one
    (within graph roots numbers are one step.node (one_is ∙ sym step.from))
    (in_more step.node step.next step.edge
    (roots_found graph roots numbers edges are between goal middle far step.next other step.to other_is))

-- where a node reaches one of another root, its root reaches that root
roots_whole : (graph : Graph) (roots : List ℕ) (edges : Graph) → AreRootEdges graph roots edges → (other one : ℕ)
    → Reaches graph other one → (root_of roots one ≡ root_of roots other → ⊥)
    → Reaches edges (root_of roots other) (root_of roots one)
roots_whole graph roots edges between other one (in_one _ led) apart =
    in_one (root_of roots one) (between.whole one other led apart)
roots_whole graph roots edges between other one (in_more _ next led far) apart =
    let root : ℕ = root_of roots one in
    let middle : ℕ = root_of roots next in
    let goal : ℕ = root_of roots other in
    elim (cases_eq root middle) [
      | inl same ↦
          subst (λ (n : ℕ). Reaches edges goal n) (sym same)
          (roots_whole graph roots edges between other next far (λ is. apart (same ∙ is)))
      | inr cross ↦
          let edge : leads edges root middle ≡ true = between.whole one next led cross in
          elim (cases_eq middle goal) [
            | inl home ↦ in_one root (subst (λ (n : ℕ). leads edges root n ≡ true) home edge)
            | inr on ↦ in_more root middle edge (roots_whole graph roots edges between other next far on)
          ]
    ]

-- nodes of different roots: the first reaches the other where its root does
pub reaches_between : (graph : Graph) (roots numbers : List ℕ) (edges : Graph) → AreComponents graph roots numbers
    → AreRootEdges graph roots edges → (one other root goal : ℕ) → root ≡ root_of roots one
    → goal ≡ root_of roots other → (root ≡ goal → ⊥) → reaches edges root goal ≡ reaches graph one other
reaches_between graph roots numbers edges are between one other root goal root_is goal_is apart =
    let cross : root_of roots one ≡ root_of roots other → ⊥ = λ same. apart (root_is ∙ (same ∙ sym goal_is)) in
    both_ways (reaches edges root goal) (reaches graph one other)
    (λ reported. reaches_whole graph one other
    (roots_found graph roots numbers edges are between goal root (reaches_found edges root goal reported) one other
    (sym root_is) (sym goal_is)))
    (λ reported. reaches_whole edges root goal
    (subst (λ (n : ℕ). Reaches edges goal n) (sym root_is)
    (subst (λ (n : ℕ). Reaches edges n (root_of roots one)) (sym goal_is)
    (roots_whole graph roots edges between other one (reaches_found graph one other reported) cross))))

-- two nodes of one root: each reaches the other
pub reaches_within : (graph : Graph) (roots numbers : List ℕ) → AreComponents graph roots numbers
    → (one other root goal : ℕ) → root ≡ root_of roots one → goal ≡ root_of roots other → root ≡ goal
    → (one ≡ other → ⊥) → true ≡ reaches graph one other
reaches_within graph roots numbers are one other root goal root_is goal_is same apart =
    elim (within graph roots numbers are one other (sym root_is ∙ (same ∙ goal_is))) [
      | inl is ↦ absurd (apart is)
      | inr far ↦ sym (reaches_whole graph one other far)
    ]

-- a node reaches itself where it is marked among all nodes
pub reaches_marked_itself : (graph : Graph) (one other : ℕ) → one ≡ other
    → is_marked (on_cycles graph) one ≡ reaches graph one other
reaches_marked_itself graph one other same =
    let whether : ℕ → Bool = λ n. reaches graph n n in
    let itself : is_marked (on_cycles graph) one ≡ reaches graph one one =
    elim (cases_lt one (length graph)) [
      | inl inside ↦ get_or-map-range_with_len whether 0 (length graph) one one false inside (omega arith)
      | inr past ↦
          let long = length-map-range_with_len whether 0 (length graph) in
          let beyond : length (on_cycles graph) ≤ one = omega (arith, long, past) in
          get_or_past (on_cycles graph) one false beyond ∙ sym (reaches_past graph one one past)
    ] in
    itself ∙ ap (reaches graph one) same

-- no root reaches itself
no_way_back : (graph : Graph) (roots numbers : List ℕ) (edges : Graph) → AreComponents graph roots numbers
    → AreRootEdges graph roots edges → (root : ℕ) → Reaches edges root root → ⊥
no_way_back graph roots numbers edges are between root (in_one _ led) = (between.found root root led).apart refl
no_way_back graph roots numbers edges are between root (in_more _ middle led far) =
    let step = between.found root middle led in
    let node : ℕ = step.node in
    let next : ℕ = step.next in
    let back : Reaches graph node next =
    roots_found graph roots numbers edges are between root middle far next node step.to step.from in
    let there : Reaches graph next node = in_one node step.edge in
    let each : (nat_eq node next || (reaches graph node next && reaches graph next node)) ≡ true =
    or_right (nat_eq node next) (reaches graph node next && reaches graph next node)
    (and_from (reaches graph node next) (reaches graph next node) (reaches_whole graph node next there)
    (reaches_whole graph next node back)) in
    let same : root_of roots node ≡ root_of roots next =
    eqb-true (root_of roots node) (root_of roots next) (are.same_root node next ∙ each) in
    step.apart (sym step.from ∙ (same ∙ step.to))

-- the graph of roots has no cycle
pub roots_have_no_cycle : (graph : Graph) (roots numbers : List ℕ) (edges : Graph) → AreComponents graph roots numbers
    → AreRootEdges graph roots edges → All (λ is_on_cycle. is_on_cycle ≡ false) (on_cycles edges)
roots_have_no_cycle graph roots numbers edges are between = λ k d less.
    let whether : ℕ → Bool = λ n. reaches edges n n in
    let long = length-map-range_with_len whether 0 (length edges) in
    let inside : k < length edges = omega (arith, long, less) in
    get_or-map-range_with_len whether 0 (length edges) k k d inside (omega arith)
    ∙ false_from_ne_true (whether k)
    (λ reported. no_way_back graph roots numbers edges are between k (reaches_found edges k k reported))

-- each edge of the graph of roots leads to a node
pub roots_have_nodes : (graph : Graph) (roots numbers : List ℕ) (edges : Graph) → HasNodes graph
    → AreComponents graph roots numbers → AreRootEdges graph roots edges → HasNodes edges
roots_have_nodes graph roots numbers edges nodes are between = λ k d less.
    subst (λ (row : List ℕ). All (λ node. node < length edges) row) (get_or_default edges k [] d less)
    (λ i e small.
    let goal : ℕ = get_or (successors edges k) i e in
    let led : leads edges k goal ≡ true =
    list_any_at (λ other. nat_eq other goal) (successors edges k) i e small (eq-eqb goal goal refl) in
    let step = between.found k goal led in
    let inside = are.is_node step.next (lead_end graph step.node step.next nodes step.edge) in
    omega (arith, inside, step.to, between.count))
