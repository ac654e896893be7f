-- The groups of nodes, and the rows of a table.
--
--   `row_at`, `row_past`       the row at an index, and where there is none
--   `are_grouped`              nodes are grouped by the numbers of their groups
--   `alike_in_row`, `alike_in_none`            the nodes of a group are those in its row
use Rattle.std.proofs.Common.{◌≡◌, ◌∙◌, ℕ, List, [], slice_get, option_map, Option, Some, None, Contains, sym, ap, subst}
use Rattle.std.proofs.lemmas.Option.{get_or_from_slice_get, none-some, same_Some, slice_get-map, unwrap_or-slice_get}
use Rattle.std.specs.Prelude.{unwrap_or}
use Rattle.std.specs.declared.alloc.Global.{Global}
use Rattle.std.specs.declared.vec.Vec.{Vec}
use Rattle.abs_graph.specs.Graphs.{successors}
use Rattle.abs_graph.specs.Views.{graph_of}
use Rattle.circularity_test.proofs.NodeLemmas.{zip_at}
use Rattle.circularity_test.specs.Network.{AreGrouped, AreMembers, AreNumbers, IsGrouped, group_by, group_of}
use Rattle.circularity_test.specs.declared.network.Groups.{Groups}
use Rattle.circularity_test.specs.declared.network.Node.{Node}
use Rattle.name_bounding.specs.declared.kind.Kind.{Kind}

-- the row at an index of a table
pub row_at : (rows : List (Vec ℕ Global)) (index : ℕ) (row : Vec ℕ Global) → slice_get rows index ≡ Some row
    → successors (graph_of rows) index ≡ row.items
row_at rows index row there =
    get_or_from_slice_get (graph_of rows) index row.items []
    (slice_get-map (λ (one : Vec ℕ Global). one.items) rows index
    ∙ ap (option_map (λ (one : Vec ℕ Global). one.items)) there)

-- past a table there is none
pub row_past : (rows : List (Vec ℕ Global)) (index : ℕ) → slice_get rows index ≡ None
    → successors (graph_of rows) index ≡ []
row_past rows index none =
    let past : slice_get (graph_of rows) index ≡ None =
    slice_get-map (λ (one : Vec ℕ Global). one.items) rows index
    ∙ ap (option_map (λ (one : Vec ℕ Global). one.items)) none in
    sym (unwrap_or-slice_get (graph_of rows) index [])
    ∙ ap (λ (row : Option (List ℕ)). unwrap_or row []) past

-- nodes are grouped by the numbers of their groups
pub are_grouped : (nodes : List Node) (groups : Groups) (numbers : List ℕ)
    → AreNumbers group_of nodes groups.groups.keys numbers → AreMembers numbers (graph_of groups.rows.items)
    → AreGrouped nodes groups
are_grouped nodes groups numbers are members number one there =
    let at = zip_at (λ (item : Node) (row : ℕ). slice_get groups.groups.keys row ≡ Some (group_of item)) nodes numbers
    are number one there in
    record { row = at.0; there = at.2; inside = (members at.0 number).1 at.1 }

module _ (nodes : List Node) (groups : Groups) (kind : Kind) (component : ℕ) (grouped : AreGrouped nodes groups)
    (row : Option ℕ)
    (finds : (number : ℕ) → slice_get groups.groups.keys number ≡ Some (group_by kind component)
    → row ≡ Some number)
    (number : ℕ) (one : Node) (there : slice_get nodes number ≡ Some one)
    (alike : group_of one ≡ group_by kind component)
  where
    -- the row of a node that is alike was found
    found_row : (it : IsGrouped groups one number) → row ≡ Some it.row
    found_row it = finds it.row (it.there ∙ ap Some alike)

    -- a node that is alike is in the row that was found
    pub alike_in_row : (found : ℕ) → row ≡ Some found → Contains (successors (graph_of groups.rows.items) found) number
    alike_in_row found is =
        let it = grouped number one there in
        subst (λ at. Contains (successors (graph_of groups.rows.items) at) number)
        (same_Some it.row found (sym (found_row it) ∙ is)) it.inside

    -- so there is a row
    pub alike_in_none : row ≡ None → ⊥
    alike_in_none none =
        let it = grouped number one there in
        none-some it.row (sym none ∙ found_row it)
