-- A field holds the atoms that its initial value reads.
use Rattle.std.specs.Prelude.{get_or}
use Rattle.std.proofs.lemmas.List.{get_or_default}
use Rattle.saturation.proofs.StepLemmas.{adds_each_more}
use Rattle.saturation.proofs.rules.Rules.begin_initial.Goals as goal

pub loop-slot-preserved : goal.loop-slot-preserved
loop-slot-preserved c =
    let slots = c.deref-slot-items.result.now in
    let index = c.loop-slot.slot-index in
    adds_each_more _ slots index (get_or slots index 0) c.loop-slot-test.true
    (get_or_default slots index 0 (get_or slots index 0) c.loop-slot-test.true) c.loop-slot.invariant
    c.begin_slot.ensures
