use Rattle.std.proofs.Common.{map, take}
use Rattle.abs_tree.specs.SyntaxViews.{decl_tree}
use Rattle.check_obj.proofs.GrownRowLemmas.{names_in}
use Rattle.check_obj.proofs.RowsLemmas.{RowsSoFar}
use Rattle.check_obj.proofs.method_types.method_rows.Given as goal

abbrev pub invariant-loop-declaration : goal.invariant-loop-declaration
invariant-loop-declaration l =
    RowsSoFar l.fn.checker l.checker
    (map (decl_tree (names_in l.fn.checker)) (take l.declaration-index l.declaration-items)) l.rows.items
