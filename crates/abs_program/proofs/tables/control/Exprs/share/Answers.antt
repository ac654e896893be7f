use Rattle.std.proofs.Common.{List, ap, drop}
use Rattle.std.specs.declared.alloc.Global.{Global}
use Rattle.std.specs.declared.vec.Vec.{Vec}
use Rattle.abs_program.specs.Instructions.{one_expr}
use Rattle.abs_tree.specs.SyntaxViews.{expr_tree, expr_trees}
use Rattle.abs_tree.specs.declared.syntax.expression.Expr.{Expr}
use Rattle.abs_program.proofs.tables.control.Exprs.share.Goals as goal

pub returns-in_ok-clone-in-One : goal.returns-in_ok-clone-in-One
returns-in_ok-clone-in-One c names =
    rw c.in-One.is (ap (λ (expr : Expr). one_expr (expr_tree names expr)) c.in_ok-clone-in-One.ensures.cases)

pub returns-in_ok-clone-in-Several : goal.returns-in_ok-clone-in-Several
returns-in_ok-clone-in-Several c names =
    rw c.in-Several.is (ap (λ (operands : Vec Expr Global). expr_trees names operands.items) c.in_ok-clone-in-Several.ensures.cases)

pub returns-in_ok-clone-in-Arguments : goal.returns-in_ok-clone-in-Arguments
returns-in_ok-clone-in-Arguments c names =
    rw c.in-Arguments.is
    (ap (λ (operands : Vec Expr Global). expr_trees names (drop 1 operands.items)) c.in_ok-clone-in-Arguments.ensures.cases)
