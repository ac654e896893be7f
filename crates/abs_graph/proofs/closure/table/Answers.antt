use Rattle.std.proofs.Common.{List, Bool, ◌≡◌, ◌∙◌, length, subst, sym, arith}
use Rattle.std.proofs.lemmas.List.{with_items_is}
use Rattle.abs_graph.specs.Tables.{IsTable}
use Rattle.abs_graph.specs.Views.{graph_of}
use Rattle.abs_graph.proofs.TableLemmas.{filled_table}
use Rattle.abs_graph.proofs.closure.table.Goals as goal

pub returns : goal.returns
returns c =
    let rows = c.fill_in_order.new.rows in
    let filled = c.fill_in_order.new.filled in
    let rows_len : length rows ≡ c.in_ok-rows.rows.len = omega arith in
    let filled_len : length filled ≡ c.in_ok-filled.filled.len = omega arith in
    subst (λ (rs : List (List Bool)). IsTable (graph_of c.args.graph.now) c.args.columns.now rs)
    (sym (with_items_is c.in_ok-rows.rows rows rows_len))
    (filled_table (graph_of c.args.graph.now) c.args.columns.now rows filled c.as_slice-2.result.now c.in_ok-fill_in_order.ensures
    (c.as_slice-2.ensures.value ∙ with_items_is c.in_ok-filled.filled filled filled_len) c.if-not-all_filled.ensures)
