-- How far the nodes of a graph are from a goal. The graph is given backwards: the row of a node has the nodes from
-- which an edge leads to it. It serves proofs only.
--
--   `IsBefore`                 an edge leads from a node to another one
--   `Leads`                    a walk of so many edges leads from a node to the goal
--   `LeadsFrom`                a walk leads from one of some nodes to the goal
--   `AreNear`                  the distances of the nodes that are near the goal
--   `mark_in`, `distance_of`   the distance that a table gives a node
--   `HasOne`                   a table gives one of some nodes a distance
--   `Spreads`                  a distance was given to the nodes of a list that had none
--   `Marks`                    the table of a search, level by level
use Rattle.std.specs.Map.{lookup}
use Rattle.std.specs.Prelude.{◌≡◌, ◌<◌, ◌≤◌, ◌++◌, ℕ, zero, suc, List, Contains, Option, Some, nat_eq, slice_get}
use Rattle.abs_graph.specs.Graphs.{Graph, successors}
use Rattle.circularity_test.specs.declared.distances.Distances.{Distances}

-- an edge leads from a node to the next one
abbrev pub IsBefore : Graph → ℕ → ℕ → Type 0
IsBefore before node next = Contains (successors before next) node

-- A walk of so many edges leads from a node to the goal.
pub data Leads (before : Graph) (goal : ℕ) : ℕ → ℕ → Type 0 where
  there : Leads before goal goal zero
  onward : (node next length : ℕ) → IsBefore before node next → Leads before goal next length
      → Leads before goal node (suc length)

-- A walk leads from one of some nodes to the goal.
pub record LeadsFrom (before : Graph) (goal : ℕ) (starts : List ℕ) : Type 0 where
  pub node : ℕ
  pub inside : Contains starts node
  pub length : ℕ
  pub leads : Leads before goal node length

-- What is known of distances. Each is the length of a walk to the goal. All nodes from which a walk of at most so many
-- edges leads there have one, and no others. If a walk leads there from one of the starts, one of these has a distance.
pub record AreNear (before : Graph) (goal : ℕ) (starts : List ℕ) (far : ℕ → Option ℕ) : Type 0 where
  pub bound : ℕ
  pub leads : (node distance : ℕ) → far node ≡ Some distance → Leads before goal node distance
  pub within : (node distance : ℕ) → far node ≡ Some distance → distance ≤ bound
  pub near : (node length : ℕ) → Leads before goal node length → length ≤ bound
      → (distance : ℕ) × (distance ≤ length) × (far node ≡ Some distance)
  pub enough : LeadsFrom before goal starts
      → (node : ℕ) × (distance : ℕ) × Contains starts node × (far node ≡ Some distance)

-- the distance that a table gives a node, if it gives one
abbrev pub mark_in : List (ℕ × ℕ) → ℕ → Option ℕ
mark_in marks node = lookup (nat_eq node) marks

-- the distance of a node, if it is known
abbrev pub distance_of : Distances → ℕ → Option ℕ
distance_of distances node = mark_in distances.marks.entries node

-- One of some nodes has a distance.
pub record HasOne (nodes : List ℕ) (marks : List (ℕ × ℕ)) : Type 0 where
  pub node : ℕ
  pub inside : Contains nodes node
  pub distance : ℕ
  pub marked : mark_in marks node ≡ Some distance

-- Entries were added after those of a table, for nodes of a list and with one distance. Now each node of the list has
-- a distance.
pub record Spreads (nodes : List ℕ) (distance : ℕ) (old new : List (ℕ × ℕ)) : Type 0 where
  pub added : List (ℕ × ℕ)
  pub is : new ≡ old ++ added
  pub each : (node given : ℕ) → Contains added (node, given) → Contains nodes node × (given ≡ distance)
  pub marked : (node : ℕ) → Contains nodes node → (given : ℕ) × (mark_in new node ≡ Some given)

-- The table of a search. Its entries are in the order in which they were added. The nodes of those before an index were
-- followed, and their distances are at most the level. From there to an end they are the level, and then one more.
pub record Marks (before : Graph) (goal level index end : ℕ) (marks : List (ℕ × ℕ)) : Type 0 where
  pub goal_is : mark_in marks goal ≡ Some zero
  pub leads : (place node distance : ℕ) → slice_get marks place ≡ Some (node, distance)
      → Leads before goal node distance
  pub followed : (place node distance other : ℕ) → place < index → slice_get marks place ≡ Some (node, distance)
      → IsBefore before other node → (given : ℕ) × (given ≤ suc distance) × (mark_in marks other ≡ Some given)
  pub passed : (place node distance : ℕ) → place < index → slice_get marks place ≡ Some (node, distance)
      → distance ≤ level
  pub level_is : (place node distance : ℕ) → index ≤ place → place < end
      → slice_get marks place ≡ Some (node, distance) → distance ≡ level
  pub next_is : (place node distance : ℕ) → end ≤ place → slice_get marks place ≡ Some (node, distance)
      → distance ≡ suc level
