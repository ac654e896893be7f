use Rattle.std.proofs.Common.{◌≡◌, Bool, false, List, arith}
use Rattle.std.proofs.lemmas.Bool.Decides.{Decides-at}
use Rattle.std.proofs.lemmas.Grind.{common_steps}
use Rattle.std.specs.Cmp.Lexicographic.{pointwise}
use Rattle.abs_tree.specs.contracts.syntax.declaration.DeclPartialEq.TheImpl as decl_impl
use Rattle.abs_tree.specs.declared.syntax.declaration.Decl.{Decl}
use Rattle.abs_program.specs.Comparisons.{functions_among}
use Rattle.abs_program.proofs.EqualDeclarationLemmas.{functions_equal-Decides}
use Rattle.abs_program.proofs.comparing.same_functions.Goals as goal

-- what the comparison of the functions among declarations gives
abbrev compared : List Decl → List Decl → Bool
compared left right = pointwise decl_impl.ghosts.eq (functions_among left) (functions_among right)

pub returns-in_default : goal.returns-in_default
returns-in_default c =
    let reported : c.is_none.result ≡ compared c.args.left.now c.args.right.now = grind (arith, common_steps) in
    Decides-at _ _ reported (functions_equal-Decides c.args.left.now c.args.right.now)

pub returns-in_default-first_function : goal.returns-in_default-first_function
returns-in_default-first_function c =
    let reported : false ≡ compared c.args.left.now c.args.right.now = grind (arith, common_steps) in
    Decides-at _ _ reported (functions_equal-Decides c.args.left.now c.args.right.now)

pub returns-then-ne : goal.returns-then-ne
returns-then-ne c =
    let reported : false ≡ compared c.args.left.now c.args.right.now = grind (arith, common_steps) in
    Decides-at _ _ reported (functions_equal-Decides c.args.left.now c.args.right.now)
