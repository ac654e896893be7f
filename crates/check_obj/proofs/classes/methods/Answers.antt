use Rattle.check_obj.proofs.ClassLemmas.{method_next, methods_noted}
use Rattle.check_obj.proofs.classes.methods.Goals as goal

pub loop-member-preserved : goal.loop-member-preserved
loop-member-preserved c =
    method_next c.args.members.now c.loop-member.member-index c.member-item.result c.loop-member.invariant
    c.loop-member-test.true c.member-item.is c.in_ok-method_member.ensures.noted
    c.in_ok-method_member.ensures.stays c.in_ok-method_member.ensures.keeps

pub returns-clause-noted : goal.returns-clause-noted
returns-clause-noted c =
    methods_noted c.args.members.now c.loop-member.member-index c.loop-member.invariant c.loop-member-test.false
