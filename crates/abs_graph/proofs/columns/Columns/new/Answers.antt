use Rattle.std.proofs.Common.{◌≡◌, ◌∙◌, length, sym}
use Rattle.abs_graph.specs.Graphs.{successors}
use Rattle.abs_graph.specs.Views.{graph_of}
use Rattle.abs_graph.proofs.CertificateLemmas.{row_successors}
use Rattle.abs_graph.proofs.ColumnLemmas.{columns_more}
use Rattle.abs_graph.proofs.TableLemmas.{node_inside, nodes_have_rows, rows_count}
use Rattle.abs_graph.proofs.columns.Columns.new.Goals as goal

pub add_row-requires : goal.add_row-requires
add_row-requires c =
    let graph = graph_of c.args.graph.now in
    let is : c.as_slice.result.now ≡ successors graph c.loop-row.row-index =
    c.as_slice.ensures.value
    ∙ sym (row_successors c.args.graph.now c.loop-row.row-index c.row-item.result c.loop-row-test.true c.row-item.is) in
    nodes_have_rows graph c.as_slice.result.now (length c.loop-row.columns.columns.items) c.loop-row.row-index c.requires
    (node_inside c.args.graph.now c.loop-row.row-index c.loop-row-test.true) is
    (c.loop-row.invariant.1 ∙ rows_count c.args.graph.now)

pub loop-row-preserved : goal.loop-row-preserved
loop-row-preserved c =
    let graph = graph_of c.args.graph.now in
    let is : successors graph c.loop-row.row-index ≡ c.as_slice.result.now =
    row_successors c.args.graph.now c.loop-row.row-index c.row-item.result c.loop-row-test.true c.row-item.is
    ∙ sym c.as_slice.ensures.value in (
      columns_more c.loop-row.columns c.add_row.new.self graph c.loop-row.row-index c.as_slice.result.now
          c.loop-row.invariant.0 c.in_ok-add_row.ensures is,
      c.in_ok-add_row.ensures.room ∙ c.loop-row.invariant.1,
    )
