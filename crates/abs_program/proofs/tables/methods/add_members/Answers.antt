use Rattle.abs_program.proofs.MethodLemmas.{members_start, members_step, members_done}
use Rattle.abs_program.proofs.tables.methods.add_members.Goals as goal

pub loop-index-init : goal.loop-index-init
loop-index-init c = members_start c.args.symbols.now c.args.class c.args.members.now c.args.indices.now.entries

pub loop-index-preserved : goal.loop-index-preserved
loop-index-preserved c =
    members_step c.index-members-index.result c.in_ok-in_32_bits.field-0 c.loop-index.invariant c.loop-index-test.true
    c.index-members-index.is c.in_ok-in_32_bits.ensures c.in_ok-add_member.ensures

pub returns : goal.returns
returns c = members_done c.loop-index.invariant c.loop-index-test.false
