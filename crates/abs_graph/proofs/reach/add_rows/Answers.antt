use Rattle.std.proofs.Common.{◌≡◌, ◌∙◌, List, ℕ, ◌<◌, length, sym, ap, arith}
use Rattle.std.specs.declared.alloc.Global.{Global}
use Rattle.std.specs.declared.vec.Vec.{Vec}
use Rattle.abs_graph.specs.Graphs.{successors}
use Rattle.abs_graph.specs.Views.{graph_of}
use Rattle.abs_graph.proofs.CertificateLemmas.{row_successors}
use Rattle.abs_graph.proofs.RootEdgeLemmas.{root_edges_more, root_read}
use Rattle.abs_graph.proofs.TableLemmas.{rows_count}
use Rattle.abs_graph.proofs.reach.add_rows.Goals as goal

pub add_roots-requires : goal.add_roots-requires
add_roots-requires c =
    let rows = c.args.components.now.graph.items in
    let count = ap (λ (rs : List (Vec ℕ Global)). length rs) c.deref-row-items.ensures.value in
    let inside : c.loop-node.node < length rows = omega (arith, count, c.loop-node-test.true) in
    let root = root_read rows c.args.components.now.roots.items c.args.components.now.numbers.items c.loop-node.node
    c.index.result.now c.args.components.now.are inside c.index.ensures in
    omega (arith, root.1, rows_count c.loop-node.edges, c.loop-node.invariant.count)

pub loop-node-preserved : goal.loop-node-preserved
loop-node-preserved c =
    let rows = c.args.components.now.graph.items in
    let roots = c.args.components.now.roots.items in
    let count = ap (λ (rs : List (Vec ℕ Global)). length rs) c.deref-row-items.ensures.value in
    let inside : c.loop-node.node < length rows = omega (arith, count, c.loop-node-test.true) in
    let root = root_read rows roots c.args.components.now.numbers.items c.loop-node.node c.index.result.now
    c.args.components.now.are inside c.index.ensures in
    let nodes : c.as_slice.result.now ≡ successors (graph_of rows) c.loop-node.node =
    c.as_slice.ensures.value
    ∙ (sym (row_successors c.deref-row-items.result.now c.loop-node.node c.row-item.result c.loop-node-test.true
    c.row-item.is)
    ∙ ap (λ (rs : List (Vec ℕ Global)). successors (graph_of rs) c.loop-node.node) c.deref-row-items.ensures.value) in
    root_edges_more (graph_of rows) roots c.as_slice.result.now (graph_of c.loop-node.edges)
    (graph_of c.add_roots.new.edges) c.loop-node.node c.index.result.now c.loop-node.invariant nodes root.0
    c.in_ok-add_roots.ensures
