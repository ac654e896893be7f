use Rattle.contract_terms.specs.Views.{reads_tree}
use Rattle.saturation.proofs.AddedLemmas.{added_start, added_both, added_by, added_view, added_all_views}
use Rattle.saturation.proofs.uses.Uses.add_reads.Goals as goal
use Rattle.saturation.specs.UsesAdded.{SlotsRead, FieldsRead}

pub loop-expr-init : goal.loop-expr-init
loop-expr-init c = added_start

pub loop-expr-preserved : goal.loop-expr-preserved
loop-expr-preserved c =
    let slots = SlotsRead c.args.body c.args.index c.loop-expr.expr in
    let fields = FieldsRead c.args.body c.args.index c.loop-expr.expr in
    added_view reads_tree c.args.reads.now c.index-reads-expr.result c.loop-expr.invariant c.loop-expr-test.true
    c.index-reads-expr.is
    (added_both (added_by slots c.as_slice.ensures.value c.in_ok-add_slots.ensures)
    (added_by fields c.as_slice-in-loop-expr.ensures.value c.in_ok-add_fields.ensures))

pub returns : goal.returns
returns c = added_all_views reads_tree c.args.reads.now c.loop-expr.invariant c.loop-expr-test.false
