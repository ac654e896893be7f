use Rattle.std.proofs.Common.{refl}
use Rattle.std.proofs.lemmas.List.Elements.{All-nil}
use Rattle.std.proofs.lemmas.Grind.{merely}
use Rattle.check_fun.proofs.FrameLemmas.{slots_none, slots_pushed, knows_entered}
use Rattle.check_fun.proofs.checker.Checker.enter_value.Goals as goal

pub loop-param-init : goal.loop-param-init
loop-param-init c = rw c.in_ok-slots.ensures.items slots_none

pub loop-param-preserved : goal.loop-param-preserved
loop-param-preserved c =
    rw c.in_ok-push.ensures.items
    (slots_pushed c.args.params.now c.loop-param.slots.items c.loop-param.param-index c.param-item.result
    c.in_ok-written.field-0 c.loop-param.invariant c.loop-param-test.true c.param-item.is
    c.in_ok-written.ensures.found c.in_ok-written.ensures.first c.in_ok-written.ensures.stays)

pub invariant_of-self : goal.invariant_of-self
invariant_of-self c = record {
  slots_are = merely c.loop-param.invariant.among;
  fields_are = rw c.clear.ensures.items (merely (All-nil _));
  task_is = merely tt;
  bound_are = rw c.clear-2.ensures.items (merely (All-nil _));
}

pub returns-clause-knows : goal.returns-clause-knows
returns-clause-knows c =
    knows_entered c.args.params.now c.loop-param.slots.items c.loop-param.param-index c.loop-param.invariant
    c.loop-param-test.false refl refl c.clear.ensures.items refl refl c.clear-2.ensures.items
