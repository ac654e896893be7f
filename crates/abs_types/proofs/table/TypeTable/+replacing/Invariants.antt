use Rattle.std.proofs.Common.{◌+◌, ◌*◌, vec_len}
use Rattle.abs_types.proofs.ReplacedSoFarLemmas.{ReplacedSoFar}
use Rattle.abs_types.proofs.table.TypeTable.+replacing.Given as goal

abbrev pub decreases-replaced : goal.decreases-replaced
decreases-replaced l = 2 * l.index.0 + 1

abbrev pub decreases-replaced_head : goal.decreases-replaced_head
decreases-replaced_head l = 2 * l.head.0

abbrev pub invariant-replaced-loop-argument : goal.invariant-replaced-loop-argument
invariant-replaced-loop-argument l = ReplacedSoFar l.fn.self l.self l.types l.fn.index l.found l.arguments.items

abbrev pub decreases-replaced-loop-argument : goal.decreases-replaced-loop-argument
decreases-replaced-loop-argument l = vec_len l.arguments
