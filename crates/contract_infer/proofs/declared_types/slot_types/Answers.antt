use Rattle.std.proofs.Common.{refl}
use Rattle.abs_types.specs.SlotTypes.{slot_types}
use Rattle.contract_infer.proofs.AddLemmas.{added_all, added_step, adds_both}
use Rattle.contract_infer.proofs.declared_types.slot_types.Goals as goal

pub loop-param-preserved : goal.loop-param-preserved
loop-param-preserved c names =
    added_step c.param-item.result _ (c.loop-param.invariant names) c.loop-param-test.true c.param-item.is
    (c.push.ensures names) (λ others. refl)

pub returns : goal.returns
unfolding slot_types
returns c names =
    let params = added_all (c.loop-param.invariant names) c.loop-param-test.false refl in
    rw c.new.ensures.items at ((adds_both params (c.statements.ensures names)).added c.if-slots.false)
