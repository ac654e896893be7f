-- The way back to a pair, by the indices of the pairs on it. It serves proofs only.
--
--   `Picks`                    the pairs at some indices
--   `IsWayBack`                the first closed chain that leads back to a pair, or none
--   `sooner`, `is_sooner`      the lesser one of two numbers that may be there, and whether it is the first of them
--   `IsFirst`                  the least number of which something holds, or none
--   `IsNear`                   one of some nodes has a distance
--   `StepsAt`, `StepsTo`       a pair waits at a node, or at one of some, and leads to one with a distance
--   `Follows`, `Walked`        the pairs of a way, each of which is the least that leaves one less
--   `AreWays`, `IsAway`        the distances of a network, and how far a pair is from the goal
use Rattle.std.specs.Prelude.{◌≡◌, ◌≤◌, ℕ, zero, suc, List, [], ◌∷◌, map, Contains, Option, Some, None, Bool, true, slice_get, nat_lt, if◌then◌else◌}
use Rattle.std.specs.declared.alloc.Global.{Global}
use Rattle.std.specs.declared.vec.Vec.{Vec}
use Rattle.abs_graph.specs.Views.{graph_of}
use Rattle.abs_tree.specs.Syntax.{ProgramTree}
use Rattle.circularity_test.specs.Distances.{AreNear, Leads}
use Rattle.circularity_test.specs.Network.{AreBefore, AreMembers, led_to, waiting_at}
use Rattle.circularity_test.specs.declared.network.Network.{Network}
use Rattle.contract_terms.specs.Chains.{ClosesAt, IsLeast}
use Rattle.contract_terms.specs.declared.pair.Pair.{Pair}

-- these are the pairs at some indices of a list
abbrev pub Picks : List Pair → List ℕ → List Pair → Type 0
Picks pairs indices chain = map (slice_get pairs) indices ≡ map Some chain

-- The indices of the first closed chain that leads back to a pair by a held link, or none where there is no such chain.
abbrev pub IsWayBack : ProgramTree → List Pair → Pair → Option (Vec ℕ Global) → Type 0
IsWayBack program pairs first None = (chain : List Pair) → ClosesAt program pairs first chain → ⊥
IsWayBack program pairs first (Some indices) =
    (chain : List Pair) × Picks pairs indices.items chain × IsLeast program pairs first chain

-- the lesser one of two numbers that may be there
abbrev pub sooner : Option ℕ → Option ℕ → Option ℕ
sooner None other = other
sooner (Some one) None = Some one
sooner (Some one) (Some other) = Some (if nat_lt other one then other else one)

-- a number is less than another one that may be there
abbrev pub is_sooner : ℕ → Option ℕ → Bool
is_sooner one None = true
is_sooner one (Some other) = nat_lt one other

-- it is the least number of which something holds, or this holds of none
abbrev pub IsFirst : (ℕ → Type 0) → Option ℕ → Type 0
IsFirst Holds None = (number : ℕ) → Holds number → ⊥
IsFirst Holds (Some number) = Holds number × ((other : ℕ) → Holds other → number ≤ other)

-- One of some nodes has a distance.
pub record IsNear (far : ℕ → Option ℕ) (nodes : List ℕ) (distance : ℕ) : Type 0 where
  pub node : ℕ
  pub inside : Contains nodes node
  pub is : far node ≡ Some distance

-- A pair waits at the node with a number, and leads to one with a distance.
pub record StepsAt (network : Network) (far : ℕ → Option ℕ) (left number index : ℕ) : Type 0 where
  pub waits : Contains (waiting_at network number) index
  pub near : IsNear far (led_to network index) left

-- A pair waits at one of some nodes, and leads to one with a distance.
pub record StepsTo (network : Network) (far : ℕ → Option ℕ) (left : ℕ) (numbers : List ℕ) (index : ℕ) : Type 0 where
  pub number : ℕ
  pub inside : Contains numbers number
  pub steps : StepsAt network far left number index

-- These pairs follow a pair: each is the least that leads to a node with one less.
pub data Follows (network : Network) (far : ℕ → Option ℕ) : ℕ → ℕ → List ℕ → Type 0 where
  ends : (last : ℕ) → Follows network far last zero []
  goes : (last left next : ℕ) (others : List ℕ)
      → IsFirst (StepsTo network far left (led_to network last)) (Some next) → Follows network far next left others
      → Follows network far last (suc left) (next ∷ others)

-- A list has a pair, and then those that follow it.
pub record Walked (network : Network) (far : ℕ → Option ℕ) (first distance : ℕ) (chain : List ℕ) : Type 0 where
  pub others : List ℕ
  pub starts : chain ≡ first ∷ others
  pub follows : Follows network far first distance others

-- These are distances from a goal in a network.
pub record AreWays (network : Network) (goal : ℕ) (starts : List ℕ) (far : ℕ → Option ℕ) : Type 0 where
  pub members : AreMembers network.entries.items (graph_of network.members.items)
  pub before : AreBefore network.entries.items (graph_of network.exits.items) (graph_of network.before.items)
  pub near : AreNear (graph_of network.before.items) goal starts far

-- A pair leads to a node with a distance, and to none that is nearer to the goal.
pub record IsAway (network : Network) (goal : ℕ) (far : ℕ → Option ℕ) (last left : ℕ) : Type 0 where
  pub near : IsNear far (led_to network last) left
  pub least : (node length : ℕ) → Contains (led_to network last) node
      → Leads (graph_of network.before.items) goal node length → left ≤ length
