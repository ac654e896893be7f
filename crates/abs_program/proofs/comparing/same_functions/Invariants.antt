use Rattle.std.proofs.Common.{◌≡◌, length}
use Rattle.std.specs.Cmp.Lexicographic.{pointwise}
use Rattle.abs_tree.specs.contracts.syntax.declaration.DeclPartialEq.TheImpl as decl_impl
use Rattle.abs_program.specs.Comparisons.{functions_among}
use Rattle.abs_program.proofs.comparing.same_functions.Given as goal

-- the functions that are left tell whether all are the same
abbrev pub invariant-loop-one : goal.invariant-loop-one
invariant-loop-one l =
    pointwise decl_impl.ghosts.eq (functions_among l.left) (functions_among l.right)
    ≡ pointwise decl_impl.ghosts.eq (functions_among l.ones) (functions_among l.others)

abbrev pub decreases-loop-one : goal.decreases-loop-one
decreases-loop-one l = length l.ones
