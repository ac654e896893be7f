use Rattle.std.proofs.Common.{sym, ap, ◌∙◌}
use Rattle.std.specs.declared.alloc.Global.{Global}
use Rattle.std.specs.declared.vec.Vec.{Vec}
use Rattle.abs_program.proofs.InstructionLemmas.{side_expr_trees-own_call}
use Rattle.abs_tree.specs.SyntaxViews.{expr_trees}
use Rattle.abs_tree.specs.declared.syntax.expression.Expr.{Expr}
use Rattle.abs_program.proofs.tables.effects.value_exprs.Goals as goal

pub returns-in_ok-clone-in-OwnCall : goal.returns-in_ok-clone-in-OwnCall
returns-in_ok-clone-in-OwnCall c = λ names place.
    let call = c.in-OwnCall in
    let is = side_expr_trees-own_call names place call.place call.method call.arguments call.is in
    rw (← c.deref.ensures)
    (ap (λ (operands : Vec Expr Global). expr_trees names operands.items) c.in_ok-clone-in-OwnCall.ensures.cases ∙ sym is)
