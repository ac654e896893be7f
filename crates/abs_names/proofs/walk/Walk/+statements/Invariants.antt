use Rattle.std.proofs.Common.{◌+◌, ◌*◌}
use Rattle.abs_names.proofs.BlockLemmas.{BlockSoFar}
use Rattle.abs_names.proofs.walk.Walk.+statements.Given as goal
use Rattle.abs_tree.proofs.StatementLemmas.{branch_size}

-- The measure of each function is three times the depth of what it resolves, and a rank of less than three: that of a
-- function which passes all of it on is the greater.
abbrev pub decreases-statement : goal.decreases-statement
decreases-statement l = 3 * goal.size-statement l

abbrev pub decreases-block : goal.decreases-block
decreases-block l = 3 * goal.size-block l + 1

abbrev pub decreases-maybe_block : goal.decreases-maybe_block
decreases-maybe_block l = 3 * branch_size l.stmts.now + 2

abbrev pub invariant-block-loop-stmt : goal.invariant-block-loop-stmt
invariant-block-loop-stmt l =
    BlockSoFar l.fn.self.scope l.fn.self.first l.fn.slots.items.items l.stmts l.stmt-index l.found.items l.self.scope
    l.self.first l.slots.items.items
