use Rattle.check_obj.proofs.ClassLemmas.{field_next, fields_first}
use Rattle.check_obj.proofs.classes.fields.Goals as goal

pub loop-member-init : goal.loop-member-init
loop-member-init c =
    fields_first c.args.params.now c.in_ok-enter_value.ensures.knows c.in_ok-enter_value.ensures.first
    c.in_ok-enter_value.ensures.keeps c.in_ok-found.ensures.found c.in_ok-found.ensures.first
    c.in_ok-found.ensures.stays

pub loop-member-preserved : goal.loop-member-preserved
loop-member-preserved c =
    field_next c.args.params.now c.args.members.now c.loop-member.member-index c.member-item.result
    c.loop-member.invariant c.loop-member-test.true c.member-item.is c.in_ok-field_member.ensures.noted
    c.in_ok-field_member.ensures.knows c.in_ok-field_member.ensures.found c.in_ok-field_member.ensures.keeps
