use Rattle.check_fun.proofs.FrameLemmas.{slots_pushed}
use Rattle.check_obj.proofs.BodyLemmas.{slots_filled}
use Rattle.check_obj.proofs.methods.body_slots.Goals as goal

pub loop-param-preserved : goal.loop-param-preserved
loop-param-preserved c =
    rw c.in_ok-push.ensures.items
    (slots_pushed c.args.params.now c.loop-param.slots.items c.loop-param.param-index c.param-item.result
    c.in_ok-written.field-0 c.loop-param.invariant c.loop-param-test.true c.param-item.is
    c.in_ok-written.ensures.found c.in_ok-written.ensures.first c.in_ok-written.ensures.stays)

pub returns-clause-found : goal.returns-clause-found
returns-clause-found c =
    slots_filled c.args.params.now c.loop-param.slots.items c.resize.new.self.items c.loop-param.param-index
    c.args.count c.loop-param.invariant c.loop-param-test.false c.requires
    c.loop-param.slots.len c.loop-param.slots.ok.0 c.in_ok-resize.ensures.items
