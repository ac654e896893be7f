use Rattle.saturation.proofs.AddedLemmas.{added_start, added_number, added_all}
use Rattle.saturation.proofs.uses.Uses.add_fields.Goals as goal

pub loop-field-init : goal.loop-field-init
loop-field-init c = added_start

pub loop-field-preserved : goal.loop-field-preserved
loop-field-preserved c = added_number c.loop-field.invariant c.loop-field-test.true c.in_ok-add.ensures

pub returns : goal.returns
returns c = added_all c.loop-field.invariant c.loop-field-test.false
