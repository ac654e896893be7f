use Rattle.std.proofs.Common.{◌∙◌}
use Rattle.check_obj.proofs.MethodTypeLemmas.{head_found, taken_found, typed_all, typed_first, typed_next}
use Rattle.check_obj.proofs.method_types.method_type.Goals as goal

pub future-requires : goal.future-requires
future-requires c = taken_found c.in_ok-gives.ensures.found

pub loop-param-init : goal.loop-param-init
loop-param-init c =
    typed_first c.written.ensures.first c.written.ensures.stays c.in_ok-gives.ensures.found c.future.ensures.first
    c.future.ensures.stays c.in_ok-found.ensures.found

pub returns-in_err-taken-clause-first : goal.returns-in_err-taken-clause-first
returns-in_err-taken-clause-first c = c.written-in-loop-param.ensures.first ∙ c.loop-param.invariant.so_far.first

pub applied-requires-clause-head : goal.applied-requires-clause-head
applied-requires-clause-head c = head_found c.loop-param.invariant c.written-in-loop-param.ensures.stays

pub applied-requires-clause-argument : goal.applied-requires-clause-argument
applied-requires-clause-argument c = taken_found c.in_ok-taken.ensures.found

pub returns-in_err-found-2-clause-first : goal.returns-in_err-found-2-clause-first
returns-in_err-found-2-clause-first c =
    c.applied.ensures.first ∙ (c.written-in-loop-param.ensures.first ∙ c.loop-param.invariant.so_far.first)

pub loop-param-preserved : goal.loop-param-preserved
loop-param-preserved c =
    typed_next c.deref-param-items.result.now c.loop-param.param-index c.param-item.result c.loop-param.invariant
    c.loop-param-test.true c.param-item.is c.written-in-loop-param.ensures.first
    c.written-in-loop-param.ensures.stays c.in_ok-taken.ensures.found
    c.applied.ensures.first c.applied.ensures.stays c.in_ok-found-2.ensures.found

pub returns-clause-found : goal.returns-clause-found
returns-clause-found c =
    typed_all c.deref-param-items.result.now c.loop-param.param-index c.loop-param.invariant c.loop-param-test.false
    c.deref-param-items.ensures.value

pub returns-clause-first : goal.returns-clause-first
returns-clause-first c = c.loop-param.invariant.so_far.first

pub returns-clause-stays : goal.returns-clause-stays
returns-clause-stays c = c.loop-param.invariant.so_far.stays
