-- A graph as the code has it, by its rows.
--
--   `graph_of`                 the graph of rows
use Rattle.std.specs.Prelude.{ℕ, List, map}
use Rattle.std.specs.declared.alloc.Global.{Global}
use Rattle.std.specs.declared.vec.Vec.{Vec}
use Rattle.abs_graph.specs.Graphs.{Graph}

-- the graph of rows, each of which has the nodes to which an edge leads
abbrev pub graph_of : List (Vec ℕ Global) → Graph
graph_of rows = map (λ (row : Vec ℕ Global). row.items) rows
