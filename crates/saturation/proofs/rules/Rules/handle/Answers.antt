use Rattle.saturation.proofs.FactLemmas.{handles_live, handles_slot, handles_field, handles_result}
use Rattle.saturation.proofs.StepLemmas.{adds_then}
use Rattle.saturation.proofs.rules.Rules.handle.Goals as goal

pub returns-in-Live : goal.returns-in-Live
returns-in-Live c = handles_live _ _ _ c.in-Live.is c.start.ensures

pub returns-in-Holds : goal.returns-in-Holds
returns-in-Holds c = handles_slot _ _ _ c.in-Holds.is c.pass_in_live.ensures

pub returns-in-Field : goal.returns-in-Field
returns-in-Field c =
    handles_field _ _ _ c.in-Field.is (adds_then c.pass_in_object.ensures c.begin_from.ensures)

pub returns-in-Gives : goal.returns-in-Gives
returns-in-Gives c =
    handles_result _ _ _ c.in-Gives.is (adds_then c.pass_answer.ensures c.pass_to_getters.ensures)
