use Rattle.std.proofs.Common.{◌≡◌, ◌⊎◌, List, inl, inr, ap, ◌∙◌}
use Rattle.std.specs.declared.alloc.Global.{Global}
use Rattle.std.specs.declared.vec.Vec.{Vec}
use Rattle.abs_tree.proofs.SyntaxLemmas.{expr_tree-operators, expr_tree-own_call, expr_tree-apply, expr_tree-build, expr_tree-case}
use Rattle.abs_tree.specs.Syntax.{Name}
use Rattle.abs_tree.specs.SyntaxViews.{expr_tree, expr_trees}
use Rattle.abs_tree.specs.declared.place.Place.{Place}
use Rattle.abs_tree.specs.declared.symbol.Symbol.{Symbol}
use Rattle.abs_tree.specs.declared.syntax.expression.Expr as code
use Rattle.abs_tree.specs.declared.syntax.expression.Expr.{Expr}
use Rattle.abs_profile.specs.Profile.{expr_offences, exprs_offences}
use Rattle.abs_profile.proofs.expressions.+expressions.Goals as goal

pub note_in_expression-returns-in-Operators : goal.note_in_expression-returns-in-Operators
note_in_expression-returns-in-Operators t c names =
    rw (
      ap (expr_tree names) c.in-Operators.is ∙ expr_tree-operators names _ c.in-Operators.left c.in-Operators.operands,
      ← c.deref-in-Operators.ensures,
      ← c.deref-in-Operators-2.ensures.value,
    ) (c.note_in_operators.ensures names)

pub note_in_expression-returns-in-OwnCall : goal.note_in_expression-returns-in-OwnCall
note_in_expression-returns-in-OwnCall t c names =
    rw (
      ap (expr_tree names) c.in-OwnCall.is ∙ expr_tree-own_call names _ _ c.in-OwnCall.arguments,
      ← c.deref-in-OwnCall.ensures,
      ← c.deref-in-OwnCall-2.ensures.value,
    ) (c.note_in_expressions.ensures names)

pub note_in_expression-returns-in-Case : goal.note_in_expression-returns-in-Case
note_in_expression-returns-in-Case t c names =
    rw (
      ap (expr_tree names) c.in-Case.is ∙ expr_tree-case names _ c.in-Case.subject c.in-Case.branches,
      ← c.deref-in-Case.ensures,
      ← c.deref-in-Case-2.ensures.value,
    ) (c.note_in_case.ensures names)

-- the offences of the application of a function or of a constructor are those of its arguments
applied_offences : (names : List Name) {expr : Expr} (arguments : Vec Expr Global)
    → ((place : Place) × (function : Symbol) × (expr ≡ code.Apply place function arguments))
    ⊎ ((place : Place) × (constructor : Symbol) × (expr ≡ code.Build place constructor arguments))
    → expr_offences (expr_tree names expr) ≡ exprs_offences (expr_trees names arguments.items)
applied_offences names arguments (inl (place, function, is)) =
    ap expr_offences (ap (expr_tree names) is ∙ expr_tree-apply names place function arguments)
applied_offences names arguments (inr (place, constructor, is)) =
    ap expr_offences (ap (expr_tree names) is ∙ expr_tree-build names place constructor arguments)

pub note_in_expression-returns-in-Apply : goal.note_in_expression-returns-in-Apply
note_in_expression-returns-in-Apply t c names =
    rw (applied_offences names c.in-Apply.arguments c.in-Apply.is, ← c.deref-in-Apply.ensures.value)
    (c.note_in_expressions-in-Apply.ensures names)
