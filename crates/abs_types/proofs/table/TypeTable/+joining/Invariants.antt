use Rattle.std.proofs.Common.{◌+◌, ◌*◌, max, vec_len}
use Rattle.abs_types.proofs.TableJoinLemmas.{AppliedSoFar}
use Rattle.abs_types.proofs.table.TypeTable.+joining.Given as goal

-- parts have smaller indices, and each function has a place of its own between two indices
abbrev pub decreases-join_once : goal.decreases-join_once
decreases-join_once l = 3 * l.one.0 + 2

abbrev pub decreases-join_parts : goal.decreases-join_parts
decreases-join_parts l = 3 * l.one.0 + 1

abbrev pub decreases-join_futures : goal.decreases-join_futures
decreases-join_futures l = 3 * l.values.one.0 + 3

abbrev pub decreases-join_applied : goal.decreases-join_applied
decreases-join_applied l = 3 * max l.heads.one.0 l.arguments.one.0 + 3

abbrev pub invariant-join_applied-loop-pair : goal.invariant-join_applied-loop-pair
invariant-join_applied-loop-pair l =
    AppliedSoFar l.fn.self l.self l.fn.heads l.fn.arguments l.joined l.rest.items

abbrev pub decreases-join_applied-loop-pair : goal.decreases-join_applied-loop-pair
decreases-join_applied-loop-pair l = vec_len l.rest
