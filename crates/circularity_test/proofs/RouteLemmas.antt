-- Ways through a network: walks over its nodes, and the pairs on them by their indices.
--
--   `LinksTo`, `ClosesBy`          one pair leads to where another waits, and some pairs lead to the goal
--   `WalkFrom`, `walk_of`          a walk leads from a node to which a pair leads
--   `next_away`, `never_stuck`     how far the next pair is from the goal, and that there is one
--   `closer`                       a pair by which a way of the right length closes
--   `follows_closes`, `follows_length`     who follows closes the way, and how many these are
--   `Going`                        a way so far, with `going_first`, `going_on`, `going_never` and `going_done`
use Rattle.std.proofs.Common.{◌≡◌, ◌∙◌, ℕ, zero, suc, List, [], ◌∷◌, ◌++◌, length, Contains, Option, Some, None, refl, sym, subst, ap, arith, append-nil, append_assoc}
use Rattle.abs_graph.specs.Graphs.{Graph}
use Rattle.abs_graph.specs.Views.{graph_of}
use Rattle.circularity_test.specs.Distances.{IsBefore, Leads, there, onward}
use Rattle.circularity_test.specs.Network.{AreBefore, led_to, waits_at}
use Rattle.circularity_test.specs.Routes.{AreWays, IsAway, IsFirst, StepsTo, Follows, ends, goes, Walked}
use Rattle.circularity_test.specs.declared.network.Network.{Network}

-- A pair leads to the node at which another one waits.
pub record LinksTo (network : Network) (from to : ℕ) : Type 0 where
  pub number : ℕ
  pub waits : waits_at network to ≡ Some number
  pub leads : Contains (led_to network from) number

-- from a pair on each leads to the next, and the last one to the goal
abbrev pub ClosesBy : Network → ℕ → ℕ → List ℕ → Type 0
ClosesBy network goal one [] = Contains (led_to network one) goal
ClosesBy network goal one (next ∷ others) = LinksTo network one next × ClosesBy network goal next others

-- A walk of so many edges leads to the goal from a node to which a pair leads.
pub record WalkFrom (network : Network) (goal one count : ℕ) : Type 0 where
  pub node : ℕ
  pub inside : Contains (led_to network one) node
  pub leads : Leads (graph_of network.before.items) goal node count

-- A walk begins with an edge.
record Onward (before : Graph) (goal node count : ℕ) : Type 0 where
  next : ℕ
  edge : IsBefore before node next
  rest : Leads before goal next count

goes_on : (before : Graph) (goal node total count : ℕ) → total ≡ suc count → Leads before goal node total
    → Onward before goal node count
goes_on before goal node total count same there = absurd (omega (arith, same))
goes_on before goal node total count same (onward at next less edge rest) =
    record { next = next; edge = edge; rest = subst (Leads before goal next) (omega (arith, same)) rest }

-- a walk of no edges is at the goal
arrives : (before : Graph) (goal node total : ℕ) → total ≡ zero → Leads before goal node total → node ≡ goal
arrives before goal node total same there = refl
arrives before goal node total same (onward at next less edge rest) = absurd (omega (arith, same))

-- a link and a walk from where it leads
link_walk : (network : Network) (goal from to node count : ℕ)
    → AreBefore network.entries.items (graph_of network.exits.items) (graph_of network.before.items)
    → (links : LinksTo network from to) → Contains (led_to network to) node
    → Leads (graph_of network.before.items) goal node count
    → Leads (graph_of network.before.items) goal links.number (suc count)
link_walk network goal from to node count before links inside leads =
    onward links.number node count
    ((before links.number node).1 (record { index = to; waits = links.waits; leads = inside })) leads

-- pairs that lead to the goal are a walk
pub walk_of : (network : Network) (goal one : ℕ) (others : List ℕ)
    → AreBefore network.entries.items (graph_of network.exits.items) (graph_of network.before.items)
    → ClosesBy network goal one others → WalkFrom network goal one (length others)
walk_of network goal one [] before closes = record { node = goal; inside = closes; leads = there }
walk_of network goal one (next ∷ others) before closes =
    let rest = walk_of network goal next others before closes.1 in
    record {
      node = closes.0.number;
      inside = closes.0.leads;
      leads = link_walk network goal one next rest.node (length others) before closes.0 rest.inside rest.leads;
    }

module _ (network : Network) (goal : ℕ) (starts : List ℕ) (far : ℕ → Option ℕ)
    (ways : AreWays network goal starts far) where
  -- a walk from the next pair that leaves one less is as long as its distance
  exact : (last left : ℕ) → IsAway network goal far last (suc left) → (next : ℕ) → LinksTo network last next
      → (node : ℕ) → Contains (led_to network next) node → Leads (graph_of network.before.items) goal node left
      → far node ≡ Some left
  exact last left away next links node inside leads =
      let bounded = ways.near.within away.near.node (suc left) away.near.is in
      let it = ways.near.near node left leads (omega (arith, bounded)) in
      let most = it.1 in
      let whole = away.least links.number (suc it.0) links.leads
      (link_walk network goal last next node it.0 ways.before links inside (ways.near.leads node it.0 it.2)) in
      let same : it.0 ≡ left = omega (arith, most, whole) in
      subst (λ distance. far node ≡ Some distance) same it.2

  -- the link to the next pair
  link_of : (last left next : ℕ) → StepsTo network far left (led_to network last) next → LinksTo network last next
  link_of last left next steps = record {
    number = steps.number;
    waits = (ways.members steps.number next).0 steps.steps.waits;
    leads = steps.inside;
  }

  -- the next pair is one nearer
  pub next_away : (last left next : ℕ) → IsAway network goal far last (suc left)
      → StepsTo network far left (led_to network last) next → IsAway network goal far next left
  next_away last left next away steps =
      let links = link_of last left next steps in
      record {
        near = steps.steps.near;
        least = λ node count inside leads.
            let whole = away.least links.number (suc count) links.leads
            (link_walk network goal last next node count ways.before links inside leads) in
            omega (arith, whole);
      }

  -- a pair that closes the way in so many pairs is one of those that may be next
  pub closer : (last left next : ℕ) (others : List ℕ) → IsAway network goal far last (suc left)
      → LinksTo network last next → ClosesBy network goal next others → length others ≡ left
      → StepsTo network far left (led_to network last) next
  closer last left next others away links closes long =
      let walk = walk_of network goal next others ways.before closes in
      record {
        number = links.number;
        inside = links.leads;
        steps = record {
          waits = (ways.members links.number next).1 links.waits;
          near = record {
            node = walk.node;
            inside = walk.inside;
            is = exact last left away next links walk.node walk.inside
                (subst (Leads (graph_of network.before.items) goal walk.node) long walk.leads);
          };
        };
      }

  -- there is a next pair while some are left
  pub never_stuck : (last left : ℕ) → IsAway network goal far last (suc left)
      → IsFirst (StepsTo network far left (led_to network last)) None → ⊥
  never_stuck last left away none =
      let on = goes_on (graph_of network.before.items) goal away.near.node (suc left) left refl
      (ways.near.leads away.near.node (suc left) away.near.is) in
      let passed = (ways.before away.near.node on.next).0 on.edge in
      let links : LinksTo network last passed.index = record {
        number = away.near.node;
        waits = passed.waits;
        leads = away.near.inside;
      } in
      none passed.index (record {
        number = away.near.node;
        inside = away.near.inside;
        steps = record {
          waits = (ways.members away.near.node passed.index).1 passed.waits;
          near = record {
            node = on.next;
            inside = passed.leads;
            is = exact last left away passed.index links on.next passed.leads on.rest;
          };
        };
      })

  -- who follows closes the way
  pub follows_closes : (last left : ℕ) (others : List ℕ) → IsAway network goal far last left
      → Follows network far last left others → ClosesBy network goal last others
  follows_closes last left others away (ends at) =
      subst (Contains (led_to network last))
      (arrives (graph_of network.before.items) goal away.near.node zero refl
      (ways.near.leads away.near.node zero away.near.is)) away.near.inside
  follows_closes last left others away (goes at less next rest first follows) = (
    link_of last less next first.0,
    follows_closes next less rest (next_away last less next away first.0) follows,
  )

-- as many follow as are left
pub follows_length : (network : Network) (far : ℕ → Option ℕ) (last left : ℕ) (others : List ℕ)
    → Follows network far last left others → length others ≡ left
follows_length network far last left others (ends at) = refl
follows_length network far last left others (goes at less next rest first follows) =
    ap suc (follows_length network far next less rest follows)

-- A way so far: what follows from here on follows what is there, and the last pair is as far from the goal as is left.
pub record Going (network : Network) (far : ℕ → Option ℕ) (first distance : ℕ) (chain : List ℕ) (last left : ℕ) : Type 0
  where
    pub walked : (others : List ℕ) → Follows network far last left others
        → Walked network far first distance (chain ++ others)
    pub away : (goal : ℕ) (starts : List ℕ) → AreWays network goal starts far
        → IsAway network goal far first distance → IsAway network goal far last left

-- it begins with one pair
pub going_first : (network : Network) (far : ℕ → Option ℕ) (first distance : ℕ) (chain : List ℕ)
    → chain ≡ first ∷ [] → Going network far first distance chain first distance
going_first network far first distance chain is = record {
  walked = λ others follows. record { others = others; starts = ap (λ list. list ++ others) is; follows = follows };
  away = λ goal starts ways away. away;
}

module _ (network : Network) (far : ℕ → Option ℕ) (first distance : ℕ) (chain : List ℕ) (last total left : ℕ)
    (test : total ≡ suc left) (going : Going network far first distance chain last total) where
  -- one pair more
  pub going_on : (next : ℕ) (longer : List ℕ) → IsFirst (StepsTo network far left (led_to network last)) (Some next)
      → longer ≡ chain ++ next ∷ [] → Going network far first distance longer next left
  going_on next longer step is = record {
    walked = λ others follows.
        subst (Walked network far first distance)
        (sym (ap (λ list. list ++ others) is ∙ append_assoc chain (next ∷ []) others))
        (going.walked (next ∷ others) (subst (λ count. Follows network far last count (next ∷ others)) (sym test)
        (goes last left next others step follows)));
    away = λ goal starts ways away.
        next_away network goal starts far ways last left next
        (subst (IsAway network goal far last) test (going.away goal starts ways away)) step.0;
  }

  -- there is a next one
  pub going_never : (goal : ℕ) (starts : List ℕ) → AreWays network goal starts far
      → IsAway network goal far first distance → IsFirst (StepsTo network far left (led_to network last)) None → ⊥
  going_never goal starts ways away none =
      never_stuck network goal starts far ways last left
      (subst (IsAway network goal far last) test (going.away goal starts ways away)) none

-- nothing is left
pub going_done : (network : Network) (far : ℕ → Option ℕ) (first distance : ℕ) (chain : List ℕ) (last left : ℕ)
    → left ≡ zero → Going network far first distance chain last left → Walked network far first distance chain
going_done network far first distance chain last left test going =
    subst (Walked network far first distance) (append-nil chain)
    (going.walked [] (subst (λ count. Follows network far last count []) (sym test) (ends last)))
