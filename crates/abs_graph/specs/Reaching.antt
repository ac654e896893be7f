-- What is checked of a search for the nodes that reach a marked one.
--
--   `IsSound`                  each node that was found is marked or reaches a marked node
--   `KeepsSound`               nodes that are found later are sound if the earlier ones are
--   `IsClosed`                 each marked node was found, and so was each node with an edge to a found node
--   `IsClosedAt`               the same of one node
use Rattle.std.specs.Prelude.{◌≡◌, ℕ, ◌<◌, Bool, true, List}
use Rattle.std.specs.List.{list_any}
use Rattle.abs_graph.specs.Graphs.{Graph, leads, is_marked, reaches_marked}

-- Each node that was found is marked or reaches a marked node.
pub record IsSound (graph : Graph) (marked found : List Bool) : Type 0 where
  pub tells : (node : ℕ) → is_marked found node ≡ true → reaches_marked graph marked node ≡ true

-- Whatever the marks are, the new nodes are sound if the old ones are.
pub record KeepsSound (graph : Graph) (old new : List Bool) : Type 0 where
  pub keeps : (marked : List Bool) → IsSound graph marked old → IsSound graph marked new

-- A node was found if it is marked, or if an edge leads to a found node from it.
pub record IsClosedAt (marked found : List Bool) (node : ℕ) (row : List ℕ) : Type 0 where
  pub mark : is_marked marked node ≡ true → is_marked found node ≡ true
  pub step : list_any (is_marked found) row ≡ true → is_marked found node ≡ true

-- Each marked node below a bound was found, and so was each node below it with an edge to a found node.
pub record IsClosed (graph : Graph) (marked found : List Bool) (bound : ℕ) : Type 0 where
  pub marks : (node : ℕ) → node < bound → is_marked marked node ≡ true → is_marked found node ≡ true
  pub steps : (node next : ℕ) → node < bound → leads graph node next ≡ true → is_marked found next ≡ true
      → is_marked found node ≡ true
