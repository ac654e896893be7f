-- Expressions that hold others: the tree of one from its parts.
--
--   `let_tree`, `if_tree`, ..              the tree of an expression with this form
use Rattle.std.proofs.Common.{◌≡◌, List, refl, ap, ◌∙◌}
use Rattle.std.specs.declared.alloc.Global.{Global}
use Rattle.std.specs.declared.boxed.Box.{Box}
use Rattle.abs_tree.specs.Syntax.{Name, LetIn, IfElse, Prefixed as PrefixedOf}
use Rattle.abs_tree.specs.SyntaxViews.{type_tree, variable_tree, expr_tree}
use Rattle.abs_tree.specs.declared.place.Place.{Place}
use Rattle.abs_tree.specs.declared.syntax.expression.Expr as code
use Rattle.abs_tree.specs.declared.syntax.expression.Expr.{Expr}
use Rattle.abs_tree.specs.declared.syntax.expression.Prefix.{Prefix}
use Rattle.abs_tree.specs.declared.syntax.types.TypeTerm.{TypeTerm}
use Rattle.abs_tree.specs.declared.syntax.variable.Variable.{Variable}

-- `let`
pub let_tree : (names : List Name) (expr : Expr) (place : Place) (type_of : Box TypeTerm Global) (variable_place : Place)
    (variable : Variable) (value body : Box Expr Global) (term : TypeTerm) (given inner : Expr)
    → expr ≡ code.Let place type_of variable_place variable value body → term ≡ type_of.value → given ≡ value.value
    → inner ≡ body.value → expr_tree names expr ≡ LetIn place (type_tree names term) variable_place
    (variable_tree names variable) (expr_tree names given) (expr_tree names inner)
let_tree names expr place type_of variable_place variable value body term given inner is term_is given_is inner_is =
    ap (expr_tree names) is ∙ rw (term_is, given_is, inner_is) refl

-- `if`
pub if_tree : (names : List Name) (expr : Expr) (place : Place) (condition first second : Box Expr Global)
    (given one other : Expr) → expr ≡ code.If place condition first second → given ≡ condition.value
    → one ≡ first.value → other ≡ second.value
    → expr_tree names expr ≡ IfElse place (expr_tree names given) (expr_tree names one) (expr_tree names other)
if_tree names expr place condition first second given one other is given_is one_is other_is =
    ap (expr_tree names) is ∙ rw (given_is, one_is, other_is) refl

-- an operator before an operand
pub prefixed_tree : (names : List Name) (expr : Expr) (place : Place) (prefix : Prefix) (operand : Box Expr Global)
    (given : Expr) → expr ≡ code.Prefixed place prefix operand → given ≡ operand.value
    → expr_tree names expr ≡ PrefixedOf place prefix (expr_tree names given)
prefixed_tree names expr place prefix operand given is given_is = ap (expr_tree names) is ∙ rw given_is refl
