use Rattle.std.proofs.Common.{arith}
use Rattle.abs_program.proofs.CountLemmas.{counted_step, counted_done, next_fits, members_add}
use Rattle.abs_program.proofs.tables.loop_sizes.count_members.Goals as goal

pub count_member-requires : goal.count_member-requires
count_member-requires c =
    let names = c.requires.0 in
    let fits = next_fits c.member-item.result (members_add names) (c.loop-member.invariant names)
    c.loop-member-test.true c.member-item.is in
    (names, omega (arith, fits))

pub overflow_add-count : goal.overflow_add-count
overflow_add-count c =
    let names = c.requires.0 in
    let fits = next_fits c.member-item.result (members_add names) (c.loop-member.invariant names)
    c.loop-member-test.true c.member-item.is in
    omega (arith, fits, (c.in_ok-count.ensures names).count_is)

pub loop-member-preserved : goal.loop-member-preserved
loop-member-preserved c = λ names.
    counted_step c.member-item.result (members_add names) (c.loop-member.invariant names) c.loop-member-test.true
    c.member-item.is (c.in_ok-count.ensures names)

pub returns : goal.returns
returns c = λ names. counted_done (members_add names) (c.loop-member.invariant names) c.loop-member-test.false
