-- The rows have the edges so far, one by one.
use Rattle.std.proofs.Common.{◌≡◌, ◌≤◌, ◌∙◌, [], Some, ap, arith, get_or, length, refl, replicate, slice_get, subst}
use Rattle.std.proofs.lemmas.Option.{slice_get-get_or}
use Rattle.abs_graph.specs.Views.{graph_of}
use Rattle.circularity_test.proofs.ComponentLemmas.{rows_all, rows_more, rows_none}
use Rattle.circularity_test.proofs.components.rows_of.Goals as goal
use Rattle.circularity_test.specs.declared.parts.Edge.{Edge}

pub loop-edge-init : goal.loop-edge-init
loop-edge-init c =
    let keys = c.args.parts.now.parts.keys in
    let count : c.loop.counter ≡ length keys =
    omega (arith, c.loop-test.false, c.loop.auto.counter-end, c.len-end.ensures.len) in
    rows_none c.args.parts.now.edges.items (length keys) (graph_of c.loop.rows.items)
    (c.loop.invariant ∙ ap (λ it. replicate it []) count)

pub loop-edge-preserved : goal.loop-edge-preserved
loop-edge-preserved c =
    let items = c.as_slice-edge-items.result.now in
    let nowhere : Edge = record { from = 0; to = 0 } in
    rows_more c.args.parts.now.edges.items (length c.args.parts.now.parts.keys) c.loop-edge.edge-index _
    (graph_of c.loop-edge.rows.items) (graph_of c.add_edge.new.rows.items)
    (subst (λ list. slice_get list c.loop-edge.edge-index ≡ Some (get_or items c.loop-edge.edge-index nowhere))
    c.as_slice-edge-items.ensures.value (slice_get-get_or items c.loop-edge.edge-index nowhere c.loop-edge-test.true))
    c.loop-edge.invariant c.in_ok-add_edge.ensures

pub returns : goal.returns
returns c =
    rows_all c.args.parts.now (length c.args.parts.now.parts.keys) c.loop-edge.edge-index
    (graph_of c.loop-edge.rows.items) refl
    (subst (λ list. length list ≤ c.loop-edge.edge-index) c.as_slice-edge-items.ensures.value c.loop-edge-test.false)
    c.loop-edge.invariant
