-- The graph of the roots of components: it has an edge for each one between nodes of different roots, and no cycle.
--
--   `Crosses`                  an edge leads from a node of one root to a node of another root
--   `AreRootEdges`             the edges of the graph of roots are those between nodes of different roots
--   `HasNoEdges`               a graph of some nodes has no edge
--   `crosses`                  whether an edge of the graph of roots comes of an edge to a node
--   `AreRootsAdded`            a graph has one more edge for each node of another root in a list
use Rattle.std.specs.Prelude.{◌≡◌, ℕ, Bool, true, ◌||◌, ◌&&◌, not, List, [], length, nat_eq}
use Rattle.std.specs.List.{list_any}
use Rattle.abs_graph.specs.Components.{root_of}
use Rattle.abs_graph.specs.Graphs.{Graph, successors, leads}

-- An edge leads from a node of one root to a node of another root.
pub record Crosses (graph : Graph) (roots : List ℕ) (root goal : ℕ) : Type 0 where
  pub node : ℕ
  pub next : ℕ
  pub edge : leads graph node next ≡ true
  pub from : root_of roots node ≡ root
  pub to : root_of roots next ≡ goal
  pub apart : root ≡ goal → ⊥

-- An edge leads from a root to a root exactly where one leads from a node of the first to a node of the other, and they
-- are not one.
pub record AreRootEdges (graph : Graph) (roots : List ℕ) (edges : Graph) : Type 0 where
  pub count : length edges ≡ length graph
  pub found : (root goal : ℕ) → leads edges root goal ≡ true → Crosses graph roots root goal
  pub whole : (node next : ℕ) → leads graph node next ≡ true → (root_of roots node ≡ root_of roots next → ⊥)
      → leads edges (root_of roots node) (root_of roots next) ≡ true

-- A graph of some nodes has no edge.
pub record HasNoEdges (nodes : ℕ) (edges : Graph) : Type 0 where
  pub count : length edges ≡ nodes
  pub none : (node : ℕ) → successors edges node ≡ []

-- whether an edge from a root to another one comes of an edge to a node with the other root
abbrev pub crosses : List ℕ → ℕ → ℕ → ℕ → ℕ → Bool
crosses roots from root goal next =
    nat_eq from root && (not (nat_eq (root_of roots next) from) && nat_eq (root_of roots next) goal)

-- A graph has the edges of another one, and one from a root to the root of each node of a list with another root.
pub record AreRootsAdded (roots : List ℕ) (from : ℕ) (nodes : List ℕ) (old new : Graph) : Type 0 where
  pub count : length new ≡ length old
  pub adds : (root goal : ℕ)
      → leads new root goal ≡ (leads old root goal || list_any (crosses roots from root goal) nodes)
