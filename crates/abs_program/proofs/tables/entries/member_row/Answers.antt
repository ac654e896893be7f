use Rattle.abs_program.proofs.BodyRowLemmas.{each_start, each_step, each_done}
use Rattle.abs_program.proofs.tables.entries.member_row.Goals as goal

pub loop-member-init : goal.loop-member-init
loop-member-init c = each_start c.args.members.now c.new-row.ensures.items

pub loop-member-preserved : goal.loop-member-preserved
loop-member-preserved c =
    each_step c.member-item.result c.in_ok-member_entry.field-0 c.loop-member.invariant c.loop-member-test.true
    c.member-item.is c.in_ok-member_entry.ensures c.in_ok-push.ensures.items

pub returns : goal.returns
returns c names fit = each_done names fit c.loop-member.invariant c.loop-member-test.false
