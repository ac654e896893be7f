use Rattle.std.proofs.Common.{◌≡◌, List, ℕ, length, sym, subst, arith}
use Rattle.std.specs.declared.alloc.Global.{Global}
use Rattle.std.specs.declared.vec.Vec.{Vec}
use Rattle.std.proofs.lemmas.List.{with_items_is}
use Rattle.abs_graph.specs.RootEdges.{AreRootEdges}
use Rattle.abs_graph.specs.Views.{graph_of}
use Rattle.abs_graph.proofs.reach.root_edges.Goals as goal

pub returns : goal.returns
returns c =
    let rows = c.add_rows.new.edges in
    let rows_len : length rows ≡ c.in_ok-edges.edges.len = omega arith in
    subst (λ (rs : List (Vec ℕ Global)).
    AreRootEdges (graph_of c.args.components.now.graph.items) c.args.components.now.roots.items (graph_of rs))
    (sym (with_items_is c.in_ok-edges.edges rows rows_len)) c.in_ok-add_rows.ensures
