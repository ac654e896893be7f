use Rattle.std.proofs.Common.{◌+◌, ◌*◌, vec_len}
use Rattle.abs_types.proofs.MetSoFarLemmas.{MetSoFar}
use Rattle.abs_types.proofs.table.TypeTable.+meeting.Given as goal

abbrev pub decreases-meet : goal.decreases-meet
decreases-meet l = 2 * l.takes.0 + 1

abbrev pub decreases-meet_heads : goal.decreases-meet_heads
decreases-meet_heads l = 2 * l.heads.one.0

abbrev pub invariant-meet-loop-pair : goal.invariant-meet-loop-pair
invariant-meet-loop-pair l =
    MetSoFar l.fn.self l.self (record { one = l.fn.takes; other = l.fn.given }) l.fn.met.items l.met.items
    l.arguments.items

abbrev pub decreases-meet-loop-pair : goal.decreases-meet-loop-pair
decreases-meet-loop-pair l = vec_len l.arguments
