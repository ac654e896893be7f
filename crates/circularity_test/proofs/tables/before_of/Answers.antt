use Rattle.std.proofs.Common.{◌∙◌, ◌<◌, arith}
use Rattle.std.specs.Prelude.{length}
use Rattle.std.proofs.lemmas.List.{get_or_default}
use Rattle.abs_graph.specs.Views.{graph_of}
use Rattle.circularity_test.proofs.TableLemmas.{before_all, before_more, empty_count, exits_row, rows_inside}
use Rattle.circularity_test.proofs.tables.before_of.Goals as goal

pub add_to_each-requires : goal.add_to_each-requires
add_to_each-requires c =
    let inside = c.loop-index-test.true in
    let count = c.requires.same in
    let there : c.loop-index.index < length c.args.exits.now = omega (arith, inside, count) in
    rows_inside c.args.exits.now c.loop-index.index c.args.nodes _ c.as_slice.result.now c.requires.inside there
    (c.as_slice.ensures.value
    ∙ exits_row c.args.exits.now c.loop-index.index c.index-exits-index.result there c.index-exits-index.is)
    (c.loop-index.invariant.count ∙ empty_count c.args.nodes (graph_of c.in_ok-before.before.items)
    c.in_ok-before.ensures)

pub loop-index-preserved : goal.loop-index-preserved
loop-index-preserved c =
    let inside = c.loop-index-test.true in
    let count = c.requires.same in
    let there : c.loop-index.index < length c.args.exits.now = omega (arith, inside, count) in
    before_more c.args.entries.now (graph_of c.args.exits.now) c.loop-index.index _ c.as_slice.result.now _ _ _ inside
    (get_or_default _ _ _ _ inside)
    (c.as_slice.ensures.value
    ∙ exits_row c.args.exits.now c.loop-index.index c.index-exits-index.result there c.index-exits-index.is)
    c.loop-index.invariant c.in_ok-add_to_each.ensures

pub returns : goal.returns
returns c =
    before_all c.args.entries.now (graph_of c.args.exits.now) c.args.nodes c.loop-index.index _ _
    c.in_ok-before.ensures c.loop-index-test.false c.loop-index.invariant
