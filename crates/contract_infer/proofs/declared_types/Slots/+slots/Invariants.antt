use Rattle.std.proofs.Common.{◌+◌, ◌*◌, List}
use Rattle.abs_tree.proofs.StatementLemmas.{branch_size}
use Rattle.abs_tree.specs.Syntax.{Name}
use Rattle.abs_tree.specs.SyntaxViews.{statements}
use Rattle.abs_types.specs.SlotTypes.{statements_slot_types}
use Rattle.contract_infer.proofs.AddLemmas.{AddedSoFar}
use Rattle.contract_infer.proofs.declared_types.Slots.+slots.Given as goal

-- The measure of each function is three times the depth of what it goes over, and a rank of less than three: that of a
-- function which passes all of it on is the greater.
abbrev pub decreases-statement : goal.decreases-statement
decreases-statement l = 3 * goal.size-statement l

abbrev pub decreases-statements : goal.decreases-statements
decreases-statements l = 3 * goal.size-statements l + 1

abbrev pub decreases-other : goal.decreases-other
decreases-other l = 3 * branch_size l.branch.now + 2

-- the types of the slots of the statements so far were added
abbrev pub invariant-statements-loop-stmt : goal.invariant-statements-loop-stmt
invariant-statements-loop-stmt l =
    (names : List Name)
    → AddedSoFar names (λ items. statements_slot_types (statements names items)) l.stmts l.stmt-index l.fn.self
    l.self
