-- What a statement evaluates, and what happens with the values.
use Rattle.std.proofs.Common.{◌≡◌, List, ap, ◌∙◌, Bool, Option, ℕ, if◌then◌else◌, true, false}
use Rattle.std.specs.declared.alloc.Global.{Global}
use Rattle.std.specs.declared.sync.Arc.{Arc}
use Rattle.std.specs.declared.vec.Vec.{Vec}
use Rattle.abs_tree.proofs.SyntaxLemmas.{expr_tree-own_call}
use Rattle.abs_program.specs.Instructions.{side_expr_trees, EffectTree, Gets}
use Rattle.abs_tree.specs.Syntax.{Name, ExprTree, ValueOf, VariableTree}
use Rattle.abs_tree.specs.SyntaxViews.{expr_tree, expr_trees}
use Rattle.abs_tree.specs.declared.place.Place.{Place}
use Rattle.abs_tree.specs.declared.symbol.Symbol.{Symbol}
use Rattle.abs_tree.specs.declared.syntax.expression.Expr as code
use Rattle.abs_tree.specs.declared.syntax.expression.Expr.{Expr}

-- a right side that is a call on `this` has its operands
pub side_expr_trees-own_call : (names : List Name) (place : Place) {value : Expr} (at : Place) (method : Symbol)
    (operands : Arc (Vec Expr Global) Global) → value ≡ code.OwnCall at method operands
    → side_expr_trees (ValueOf place (expr_tree names value)) ≡ expr_trees names operands.value.items
side_expr_trees-own_call names place at method operands is =
    let side = λ (whole : ExprTree). side_expr_trees (ValueOf place whole) in
    ap (λ (expr : Expr). side (expr_tree names expr)) is ∙ ap side (expr_tree-own_call names at method operands)

-- a choice between two effects that are no `get`
pub neither_gets : (chosen : Bool) (first second : EffectTree) (slot : Option ℕ) (target : Option VariableTree)
    → (first ≡ Gets slot target → ⊥) → (second ≡ Gets slot target → ⊥)
    → (if chosen then first else second) ≡ Gets slot target → ⊥
neither_gets true first second slot target one other is = one is
neither_gets false first second slot target one other is = other is
