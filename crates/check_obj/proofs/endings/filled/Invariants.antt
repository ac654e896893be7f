use Rattle.std.proofs.Common.{◌≡◌, ◌≤◌, true, List, drop, length}
use Rattle.abs_tree.specs.Syntax.{Name}
use Rattle.abs_tree.specs.SyntaxViews.{statements}
use Rattle.abs_types.specs.Endings.{are_empty}
use Rattle.check_obj.proofs.endings.filled.Given as goal

abbrev pub invariant-loop-count : goal.invariant-loop-count
invariant-loop-count l = (l.count ≤ length l.stmts)
    × ((names : List Name) → are_empty (statements names (drop l.count l.stmts)) ≡ true)

abbrev pub decreases-loop-count : goal.decreases-loop-count
decreases-loop-count l = l.count
