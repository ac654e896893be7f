use Rattle.std.proofs.Common.{◌≡◌, List, drop}
use Rattle.abs_tree.specs.Syntax.{Name}
use Rattle.abs_tree.specs.SyntaxViews.{statements}
use Rattle.abs_types.specs.Endings.{are_empty}
use Rattle.check_obj.proofs.endings.+empty.Given as goal

abbrev pub invariant-are_empty-loop-stmt : goal.invariant-are_empty-loop-stmt
invariant-are_empty-loop-stmt l = (names : List Name)
    → are_empty (statements names l.stmts) ≡ are_empty (statements names (drop l.stmt-index l.stmts))
