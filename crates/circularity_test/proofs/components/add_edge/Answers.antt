use Rattle.std.proofs.Common.{arith}
use Rattle.std.proofs.lemmas.List.{length-map}
use Rattle.abs_graph.specs.Views.{graph_of}
use Rattle.circularity_test.proofs.ComponentLemmas.{edge_inside}
use Rattle.circularity_test.proofs.TableLemmas.{row_gains}
use Rattle.circularity_test.proofs.components.add_edge.Goals as goal

pub returns-in_ok-push : goal.returns-in_ok-push
returns-in_ok-push c =
    let rows = c.args.rows.now.items in
    let size = length-map rows (λ row. row.items) in
    let count = c.len.ensures in
    let from = c.if-from-len.true in
    let count_again = c.len-then-from-len.ensures in
    let to = c.if-edge-len.true in
    edge_inside c.args.edge (graph_of rows) _ (omega (arith, to, size, count_again))
    (row_gains rows c.args.edge.from c.args.edge.to c.index_mut.result.now c.push.new.self
    (omega (arith, from, size, count)) c.index_mut.ensures.value c.in_ok-push.ensures.items)
