-- The strongly connected components of a graph, each by one of its nodes, its root. Components have numbers.
--
--   `root_of`                  the root of a node's component
--   `number_of`                the number of a node's component
--   `AreComponents`            the roots and numbers are those of the components of a graph
use Rattle.std.specs.Prelude.{◌≡◌, ℕ, ◌<◌, ◌≤◌, true, ◌||◌, ◌&&◌, List, length, get_or, nat_eq}
use Rattle.abs_graph.specs.Graphs.{Graph, leads, reaches}

-- the root of a node's component: a node past the list is its own root
abbrev pub root_of : List ℕ → ℕ → ℕ
root_of roots node = get_or roots node node

-- the number of a node's component: that of a node past the list is 0
abbrev pub number_of : List ℕ → ℕ → ℕ
number_of numbers node = get_or numbers node 0

-- Two nodes have the same root exactly where they are one node or each reaches the other. The root of a node is a node,
-- and its own root. No edge leads to a lower number, and one between nodes of different roots leads to a greater one.
pub record AreComponents (graph : Graph) (roots numbers : List ℕ) : Type 0 where
  pub count : length roots ≡ length graph
  pub is_node : (node : ℕ) → node < length graph → root_of roots node < length graph
  pub own_root : (node : ℕ) → root_of roots (root_of roots node) ≡ root_of roots node
  pub same_root : (node other : ℕ)
      → nat_eq (root_of roots node) (root_of roots other)
      ≡ (nat_eq node other || (reaches graph node other && reaches graph other node))
  pub never_falls : (node next : ℕ) → leads graph node next ≡ true → number_of numbers node ≤ number_of numbers next
  pub rises : (node next : ℕ) → leads graph node next ≡ true → (root_of roots node ≡ root_of roots next → ⊥)
      → number_of numbers node < number_of numbers next
