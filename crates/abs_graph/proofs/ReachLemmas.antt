-- The test of reaching tells what reaches. The edges by which the test found a node lead to it. A node that is reached
-- is reached by a path that comes to no node twice. Such a path takes no more steps than there are nodes.
use Rattle.std.proofs.Common.{◌≡◌, ℕ, zero, suc, ◌<◌, Bool, true, false, ◌||◌, List, [], ◌∷◌, length, refl, sym, ap, ◌∙◌, subst, nat_eq, arith, ⊎_elim, true≢false, eq-eqb, eqb-true}
use Rattle.std.specs.List.{list_any, AllByRecursion, IsDistinct}
use Rattle.std.proofs.lemmas.Bool.{cases_Bool, cases_lt, or_left, or_right, or_cases}
use Rattle.std.proofs.lemmas.List.{get_or_past}
use Rattle.std.proofs.lemmas.Map.Steps.{length-le_from_distinct_below}
use Rattle.abs_graph.specs.Graphs.{Graph, successors, leads, Reaches, reaches_within, reaches}
use Rattle.abs_graph.specs.Graphs.Reaches.{in_one, in_more}
use Rattle.std.specs.Cmp.{both_ways}

-- a number of a list that passes a test
pub record Passing (test : ℕ → Bool) (xs : List ℕ) : Type 0 where
  pub item : ℕ
  pub had : list_any (λ other. nat_eq other item) xs ≡ true
  pub passes : test item ≡ true

pub passing : (test : ℕ → Bool) (xs : List ℕ) → list_any test xs ≡ true → Passing test xs
passing test [] some = absurd (true≢false (sym some))
passing test (x ∷ xs) some = ⊎_elim
    (λ here. record {
      item = x;
      had = or_left (nat_eq x x) (list_any (λ other. nat_eq other x) xs) (eq-eqb x x refl);
      passes = here;
    })
    (λ there. let found = passing test xs there in record {
      item = found.item;
      had = or_right (nat_eq x found.item) (list_any (λ other. nat_eq other found.item) xs) found.had;
      passes = found.passes;
    })
    (or_cases (test x) (list_any test xs) some)

-- a number of a list that passes a test settles that some number does
pub some_passes : (test : ℕ → Bool) (item : ℕ) (xs : List ℕ) → list_any (λ other. nat_eq other item) xs ≡ true
    → test item ≡ true → list_any test xs ≡ true
some_passes test item [] had passes = had
some_passes test item (x ∷ xs) had passes = ⊎_elim
    (λ here. or_left (test x) (list_any test xs)
    (subst (λ (n : ℕ). test n ≡ true) (sym (eqb-true x item here)) passes))
    (λ there. or_right (test x) (list_any test xs) (some_passes test item xs there passes))
    (or_cases (nat_eq x item) (list_any (λ other. nat_eq other item) xs) had)

-- if no number of a list passes a test, each one fails it
each_fails : (test : ℕ → Bool) (xs : List ℕ) → list_any test xs ≡ false → AllByRecursion (λ x. test x ≡ false) xs
each_fails test [] none = tt
each_fails test (x ∷ xs) none = ⊎_elim
    (λ yes. absurd (true≢false (sym (or_left (test x) (list_any test xs) yes) ∙ none)))
    (λ no. (no, each_fails test xs (sym (ap (λ (b : Bool). b || list_any test xs) no) ∙ none)))
    (cases_Bool (test x))

-- what is reached within some steps is reached
found_within : (steps : ℕ) (graph : Graph) (node goal : ℕ) → reaches_within steps graph node goal ≡ true
    → Reaches graph goal node
unfolding reaches_within
found_within zero graph node goal reported = absurd (true≢false (sym reported))
found_within (suc steps) graph node goal reported =
    let test : ℕ → Bool = λ next. nat_eq next goal || reaches_within steps graph next goal in
    let step = passing test (successors graph node) reported in
    ⊎_elim
    (λ here. in_one node (subst (λ (n : ℕ). leads graph node n ≡ true) (eqb-true step.item goal here) step.had))
    (λ there. in_more node step.item step.had (found_within steps graph step.item goal there))
    (or_cases (nat_eq step.item goal) (reaches_within steps graph step.item goal) step.passes)

pub reaches_found : (graph : Graph) (node goal : ℕ) → reaches graph node goal ≡ true → Reaches graph goal node
reaches_found graph node goal = found_within (length graph) graph node goal

-- A path leads from a node over others, in their order, to another one.
abbrev Leading : Graph → ℕ → ℕ → List ℕ → Type 0
Leading graph goal node [] = leads graph node goal ≡ true
Leading graph goal node (next ∷ others) = (leads graph node next ≡ true) × Leading graph goal next others

-- a path that comes to no node twice, by the nodes after its first one
record Path (graph : Graph) (goal node : ℕ) : Type 0 where
  others : List ℕ
  leading : Leading graph goal node others
  distinct : IsDistinct nat_eq (node ∷ others)

-- a path from a node, where the node has two names
path_from : (graph : Graph) (goal node first : ℕ) (others : List ℕ) → Leading graph goal first others
    → IsDistinct nat_eq (first ∷ others) → nat_eq node first ≡ true → Path graph goal node
path_from graph goal node first others leading distinct same =
    subst (Path graph goal) (sym (eqb-true node first same))
    (record { others = others; leading = leading; distinct = distinct })

-- of a path to which a node belongs, the part from the node on
part_from : (graph : Graph) (goal node first : ℕ) (others : List ℕ) → Leading graph goal first others
    → IsDistinct nat_eq (first ∷ others) → list_any (nat_eq node) (first ∷ others) ≡ true → Path graph goal node
unfolding IsDistinct
part_from graph goal node first [] leading distinct has = ⊎_elim
    (path_from graph goal node first [] leading distinct)
    (λ there. absurd (true≢false (sym there)))
    (or_cases (nat_eq node first) false has)
part_from graph goal node first (next ∷ others) leading distinct has = ⊎_elim
    (path_from graph goal node first (next ∷ others) leading distinct)
    (part_from graph goal node next others leading.1 distinct.1)
    (or_cases (nat_eq node first) (list_any (nat_eq node) (next ∷ others)) has)

-- A path with an edge before it: if the node before it belongs to it, the part from the node on does.
path_before : (graph : Graph) (goal node next : ℕ) → leads graph node next ≡ true → Path graph goal next
    → Path graph goal node
unfolding IsDistinct
path_before graph goal node next led path = ⊎_elim
    (λ again. part_from graph goal node next path.others path.leading path.distinct again)
    (λ new. record {
      others = next ∷ path.others;
      leading = (led, path.leading);
      distinct = (each_fails (nat_eq node) (next ∷ path.others) new, path.distinct);
    })
    (cases_Bool (list_any (nat_eq node) (next ∷ path.others)))

path_of : {graph : Graph} {goal node : ℕ} → Reaches graph goal node → Path graph goal node
unfolding IsDistinct
path_of (in_one node led) = record { others = []; leading = led; distinct = (tt, tt) }
path_of {graph} {goal} (in_more node next led later) = path_before graph goal node next led (path_of later)

-- only a node has edges
pub leads_below : (graph : Graph) (node next : ℕ) → leads graph node next ≡ true → node < length graph
leads_below graph node next led = ⊎_elim
    (λ below. below)
    (λ past. absurd (true≢false (sym led
    ∙ ap (list_any (λ other. nat_eq other next)) (get_or_past graph node [] past))))
    (cases_lt node (length graph))

-- so each number on a path is a node
first_below : (graph : Graph) (goal node : ℕ) (others : List ℕ) (q : ℕ) → Leading graph goal node others
    → nat_eq q node ≡ true → q < length graph
first_below graph goal node [] q leading same =
    subst (λ (n : ℕ). n < length graph) (sym (eqb-true q node same)) (leads_below graph node goal leading)
first_below graph goal node (next ∷ others) q leading same =
    subst (λ (n : ℕ). n < length graph) (sym (eqb-true q node same)) (leads_below graph node next leading.0)

each_below : (graph : Graph) (goal node : ℕ) (others : List ℕ) → Leading graph goal node others → (q : ℕ)
    → list_any (nat_eq q) (node ∷ others) ≡ true → q < length graph
each_below graph goal node [] leading q has = ⊎_elim
    (first_below graph goal node [] q leading)
    (λ there. absurd (true≢false (sym there)))
    (or_cases (nat_eq q node) false has)
each_below graph goal node (next ∷ others) leading q has = ⊎_elim
    (first_below graph goal node (next ∷ others) q leading)
    (each_below graph goal next others leading.1 q)
    (or_cases (nat_eq q node) (list_any (nat_eq q) (next ∷ others)) has)

-- a path is found within as many steps as it has nodes before the last one, or more
path_within : (steps : ℕ) (graph : Graph) (goal node : ℕ) (others : List ℕ) → Leading graph goal node others
    → length others < steps → reaches_within steps graph node goal ≡ true
unfolding reaches_within
path_within zero graph goal node others leading short = absurd (omega arith)
path_within (suc steps) graph goal node [] leading short =
    some_passes (λ next. nat_eq next goal || reaches_within steps graph next goal) goal (successors graph node) leading
    (or_left (nat_eq goal goal) (reaches_within steps graph goal goal) (eq-eqb goal goal refl))
path_within (suc steps) graph goal node (next ∷ others) leading short =
    some_passes (λ after. nat_eq after goal || reaches_within steps graph after goal) next (successors graph node)
    leading.0 (or_right (nat_eq next goal) (reaches_within steps graph next goal)
    (path_within steps graph goal next others leading.1 (omega arith)))

pub reaches_whole : (graph : Graph) (node goal : ℕ) → Reaches graph goal node → reaches graph node goal ≡ true
reaches_whole graph node goal reached =
    let path = path_of reached in
    let count = length-le_from_distinct_below (node ∷ path.others) (length graph) path.distinct
    (each_below graph goal node path.others path.leading) in
    path_within (length graph) graph goal node path.others path.leading (omega (arith, count))

-- what a node reaches in one step is the node to which an edge leads, or what that node reaches
whole_step : (graph : Graph) (goal node : ℕ) → Reaches graph goal node
    → list_any (λ next. nat_eq next goal || reaches graph next goal) (successors graph node) ≡ true
whole_step graph goal node (in_one _ led) =
    some_passes (λ next. nat_eq next goal || reaches graph next goal) goal (successors graph node) led
    (or_left (nat_eq goal goal) (reaches graph goal goal) (eq-eqb goal goal refl))
whole_step graph goal node (in_more _ next led far) =
    some_passes (λ after. nat_eq after goal || reaches graph after goal) next (successors graph node) led
    (or_right (nat_eq next goal) (reaches graph next goal) (reaches_whole graph next goal far))

found_step : (graph : Graph) (goal node : ℕ)
    → list_any (λ next. nat_eq next goal || reaches graph next goal) (successors graph node) ≡ true
    → Reaches graph goal node
found_step graph goal node reported =
    let step = passing (λ next. nat_eq next goal || reaches graph next goal) (successors graph node) reported in
    ⊎_elim
    (λ here. in_one node (subst (λ (n : ℕ). leads graph node n ≡ true) (eqb-true step.item goal here) step.had))
    (λ there. in_more node step.item step.had (reaches_found graph step.item goal there))
    (or_cases (nat_eq step.item goal) (reaches graph step.item goal) step.passes)

-- a node reaches the nodes to which its edges lead, and what they reach
pub reaches_step : (graph : Graph) (node goal : ℕ)
    → list_any (λ next. nat_eq next goal || reaches graph next goal) (successors graph node) ≡ reaches graph node goal
reaches_step graph node goal =
    both_ways (list_any (λ next. nat_eq next goal || reaches graph next goal) (successors graph node))
    (reaches graph node goal) (λ reported. reaches_whole graph node goal (found_step graph goal node reported))
    (λ reported. whole_step graph goal node (reaches_found graph node goal reported))
