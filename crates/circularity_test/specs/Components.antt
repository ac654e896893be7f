-- The components of the graph of parts, and the pairs that stay in one. It serves proofs only.
--
--   `AreInside`, `AddsEdge`    edges lead to rows, and an edge was added to the rows
--   `HasRows`                  the rows of a graph of parts
--   `component_by`, `component_at`             the component in which an edge stays
--   `AreLevelPairs`            the pairs that stay in a component
use Rattle.std.specs.Prelude.{◌≡◌, ◌<◌, ℕ, List, length, filter, Contains, Option, Some, None, slice_get, option_and_then, nat_eq, if◌then◌else◌}
use Rattle.abs_graph.specs.Components.{number_of}
use Rattle.abs_graph.specs.Graphs.{Graph, successors}
use Rattle.abs_tree.specs.Syntax.{ProgramTree}
use Rattle.circularity_test.specs.Numbers.{AreComponentsOf, AreRising, Numbers, entry_number, is_level}
use Rattle.circularity_test.specs.declared.level_pairs.LevelPairs.{LevelPairs}
use Rattle.circularity_test.specs.declared.parts.Edge.{Edge}
use Rattle.circularity_test.specs.declared.parts.Parts.{Parts}
use Rattle.contract_terms.specs.declared.pair.Pair.{Pair}

-- each edge leads to a row
abbrev pub AreInside : Graph → Type 0
AreInside graph = (node next : ℕ) → Contains (successors graph node) next → next < length graph

-- The edge was added, if it leads from one row to one.
pub record AddsEdge (edge : Edge) (old new : Graph) : Type 0 where
  pub count : length new ≡ length old
  pub inside : AreInside old → AreInside new
  pub kept : (node next : ℕ) → Contains (successors old node) next → Contains (successors new node) next
  pub added : edge.from < length old → edge.to < length old → Contains (successors new edge.from) edge.to

-- There is a row for each part, each edge of a row leads to one, and the rows have all edges of the parts that do.
pub record HasRows (parts : Parts) (graph : Graph) : Type 0 where
  pub count : length graph ≡ length parts.parts.keys
  pub inside : AreInside graph
  pub has : (index : ℕ) (edge : Edge) → slice_get parts.edges.items index ≡ Some edge
      → edge.from < length graph → edge.to < length graph → Contains (successors graph edge.from) edge.to

-- the component in which an edge stays, by the numbers of nodes, if it stays in one
abbrev pub component_by : List ℕ → Edge → Option ℕ
component_by numbers edge =
    if nat_eq (number_of numbers edge.from) (number_of numbers edge.to) then Some (number_of numbers edge.from) else None

-- that of the edge at an index
abbrev pub component_at : List ℕ → List Edge → ℕ → Option ℕ
component_at numbers edges index = option_and_then (component_by numbers) (slice_get edges index)

-- These are the pairs that stay in a component: their numbers, which no part of a link lets fall, are one number.
pub record AreLevelPairs (program : ProgramTree) (pairs : List Pair) (found : LevelPairs) : Type 0 where
  pub numbers : Numbers
  pub rising : AreRising program pairs numbers
  pub pairs_are : found.pairs ≡ filter (is_level numbers) pairs
  pub components_are : AreComponentsOf (entry_number numbers) found.pairs found.components.items
