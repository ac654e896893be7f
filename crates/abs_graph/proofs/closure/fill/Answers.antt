use Rattle.std.proofs.Common.{ℕ, List, true, ◌≡◌, ◌∙◌, length, subst, sym}
use Rattle.std.specs.List.{All}
use Rattle.abs_graph.specs.Columns.{has_column}
use Rattle.abs_graph.specs.Graphs.{successors}
use Rattle.abs_graph.specs.Tables.{IsUnion}
use Rattle.abs_graph.specs.Views.{graph_of}
use Rattle.abs_graph.proofs.CertificateLemmas.{row_successors}
use Rattle.abs_graph.proofs.TableLemmas.{filled_more, node_inside, nodes_have_rows}
use Rattle.abs_graph.proofs.closure.fill.Goals as goal

pub bits_over-requires-clause-nodes : goal.bits_over-requires-clause-nodes
bits_over-requires-clause-nodes c =
    let is : c.as_slice.result.now ≡ successors (graph_of c.args.graph.now) c.args.node =
    c.as_slice.ensures.value
    ∙ sym (row_successors c.args.graph.now c.args.node c.index-graph-node.result c.requires.node
    c.index-graph-node.is) in
    nodes_have_rows (graph_of c.args.graph.now) c.as_slice.result.now (length c.args.rows.now) c.args.node
    c.requires.nodes (node_inside c.args.graph.now c.args.node c.requires.node) is c.requires.filled.count

pub bits_over-requires-clause-columns : goal.bits_over-requires-clause-columns
bits_over-requires-clause-columns c =
    let is : c.as_slice.result.now ≡ successors (graph_of c.args.graph.now) c.args.node =
    c.as_slice.ensures.value
    ∙ sym (row_successors c.args.graph.now c.args.node c.index-graph-node.result c.requires.node
    c.index-graph-node.is) in
    subst (λ (nodes : List ℕ). All (λ next. has_column c.args.columns.now next ≡ true) nodes) (sym is)
    (c.requires.columns.each c.args.node c.requires.node)

pub returns : goal.returns
returns c =
    let graph = graph_of c.args.graph.now in
    let is : c.as_slice.result.now ≡ successors graph c.args.node =
    c.as_slice.ensures.value
    ∙ sym (row_successors c.args.graph.now c.args.node c.index-graph-node.result c.requires.node
    c.index-graph-node.is) in
    filled_more graph c.args.columns.now c.args.rows.now c.args.filled.now c.in_ok-bits.bits c.args.node c.requires.filled
    (node_inside c.args.graph.now c.args.node c.requires.node)
    (subst (λ (nodes : List ℕ). IsUnion c.args.columns.now c.args.rows.now c.args.filled.now nodes c.in_ok-bits.bits) is c.in_ok-bits.ensures)
