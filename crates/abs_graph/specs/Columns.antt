-- The columns of a table, whose rows have a bit for each column and not for each node.
--
--   `count_of`                 how many columns there are
--   `column_of`                the column of a node that has one
--   `has_column`               whether a node has a column
--   `IsExtended`               some nodes have columns, and so has each node that had one before
--   `HasColumns`               each node to which an edge leads has a column
--   `has_node`                 whether bits have a node, which they have by its column
use Rattle.std.specs.Prelude.{◌≡◌, ℕ, ◌<◌, Bool, true, ◌&&◌, List, length, get_or, nat_eq, nat_lt, All}
use Rattle.abs_graph.specs.BitSets.{has}
use Rattle.abs_graph.specs.Graphs.{Graph, successors}
use Rattle.abs_graph.specs.declared.columns.Columns.{Columns}

-- how many columns there are
abbrev pub count_of : Columns → ℕ
count_of columns = length columns.nodes.items

-- the column of a node that has one
abbrev pub column_of : Columns → ℕ → ℕ
column_of columns node = get_or columns.columns.items node 0

-- whether a node has a column: that column is there, and its node is this one
unfoldable pub has_column : Columns → ℕ → Bool
has_column columns node =
    nat_lt (column_of columns node) (count_of columns)
    && nat_eq (get_or columns.nodes.items (column_of columns node) 0) node

-- Some nodes have columns, and so has each node that had one before. It serves proofs only.
pub record IsExtended (old new : Columns) (nodes : List ℕ) : Type 0 where
  pub room : length new.columns.items ≡ length old.columns.items
  pub keeps : (node : ℕ) → has_column old node ≡ true → has_column new node ≡ true
  pub added : All (λ node. has_column new node ≡ true) nodes

-- Each node to which an edge leads from a node below a bound has a column.
pub record HasColumns (columns : Columns) (graph : Graph) (bound : ℕ) : Type 0 where
  pub each : (node : ℕ) → node < bound → All (λ next. has_column columns next ≡ true) (successors graph node)

-- whether bits have a node, which they have by its column
unfoldable pub has_node : Columns → List Bool → ℕ → Bool
has_node columns bits node = has_column columns node && has bits (column_of columns node)
