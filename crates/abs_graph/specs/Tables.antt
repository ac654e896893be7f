-- A table of which nodes of a graph reach which: for each node a row with its bits.
--
--   `bits_at`                  the bits of a node
--   `IsTable`                  the row of each node has the nodes that it reaches
--   `IsUnion`                  bits have some nodes, and what the rows of these nodes have
--   `IsWide`                   bits have room for numbers below a bound
--   `HasNoRoom`                no row has room
--   `HasRoom`                  no row is longer than is needed for the columns
--   `IsFilled`                 the rows that were filled have the nodes that their nodes reach
use Rattle.std.specs.Prelude.{◌≡◌, ℕ, ◌≤◌, Bool, true, ◌||◌, List, [], length, get_or, All, nat_eq}
use Rattle.std.specs.List.{list_any}
use Rattle.abs_graph.specs.BitSets.{room_for}
use Rattle.abs_graph.specs.Columns.{count_of, has_node}
use Rattle.abs_graph.specs.Graphs.{Graph, reaches, is_marked}
use Rattle.abs_graph.specs.declared.columns.Columns.{Columns}

-- the bits of a node
abbrev pub bits_at : List (List Bool) → ℕ → List Bool
bits_at rows node = get_or rows node []

-- The row of each node has the nodes that it reaches.
pub record IsTable (graph : Graph) (columns : Columns) (rows : List (List Bool)) : Type 0 where
  pub tells : (node goal : ℕ) → has_node columns (bits_at rows node) goal ≡ reaches graph node goal

-- Bits have some nodes, each of which has a filled row, and what the rows of these nodes have.
pub record IsUnion (columns : Columns) (rows : List (List Bool)) (filled : List Bool) (nodes : List ℕ)
    (bits : List Bool) : Type 0 where
  pub room : length bits ≤ room_for (count_of columns)
  pub all_filled : All (λ next. is_marked filled next ≡ true) nodes
  pub tells : (goal : ℕ)
      → has_node columns bits goal ≡ list_any (λ next. nat_eq next goal || has_node columns (bits_at rows next) goal) nodes

-- Bits have room for numbers below a bound, and no more words than are needed for them. It serves proofs only.
pub record IsWide (bound : ℕ) (bits : List Bool) : Type 0 where
  pub room : length bits ≡ room_for bound
  pub fits : bound ≤ length bits

-- no row has room
pub record HasNoRoom (rows : List (List Bool)) : Type 0 where
  pub none : (node : ℕ) → length (bits_at rows node) ≡ 0

-- no row is longer than is needed for the columns
pub record HasRoom (columns : Columns) (rows : List (List Bool)) : Type 0 where
  pub room : (node : ℕ) → length (bits_at rows node) ≤ room_for (count_of columns)

-- The rows that were filled have the nodes that their nodes reach.
pub record IsFilled (graph : Graph) (columns : Columns) (rows : List (List Bool)) (filled : List Bool) : Type 0 where
  pub count : length rows ≡ length graph
  pub flags : length filled ≡ length graph
  pub room : HasRoom columns rows
  pub tells : (node goal : ℕ) → is_marked filled node ≡ true
      → has_node columns (bits_at rows node) goal ≡ reaches graph node goal
