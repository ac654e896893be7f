use Rattle.contract_terms.specs.Views.{reads_tree}
use Rattle.saturation.proofs.AddedLemmas.{added_start, added_by, added_view, added_all_views}
use Rattle.saturation.proofs.uses.Uses.add_initials.Goals as goal
use Rattle.saturation.specs.UsesAdded.{SlotsRead}
use Rattle.saturation.specs.declared.body.Body.TheVariants as body

pub loop-index-init : goal.loop-index-init
loop-index-init c = added_start

pub loop-index-preserved : goal.loop-index-preserved
loop-index-preserved c =
    let slots = SlotsRead (body.Initials c.args.class) c.loop-index.index 0 in
    added_view reads_tree c.args.initials.now c.index-initials-index.result c.loop-index.invariant
    c.loop-index-test.true c.index-initials-index.is
    (added_by slots c.as_slice.ensures.value c.in_ok-add_slots.ensures)

pub returns : goal.returns
returns c = added_all_views reads_tree c.args.initials.now c.loop-index.invariant c.loop-index-test.false
