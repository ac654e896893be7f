use Rattle.std.proofs.Common.{◌≡◌, List, [], ◌∷◌, ◌++◌, refl, ap, ◌∙◌, map}
use Rattle.std.proofs.lemmas.Result.{on_ok_weaker}
use Rattle.abs_tree.specs.Syntax.{NullOf, ExprTree, OperatorsOf, NextOperand, NoOperands}
use Rattle.abs_tree.specs.SyntaxViews.{expr_tree}
use Rattle.abs_tree.specs.declared.syntax.expression.Expr.{Expr, Null, Operators}
use Rattle.abs_prelude.proofs.PartLemmas.{equal_parts, map-left, map-remade, operators_made, tree-final}
use Rattle.abs_prelude.proofs.parts.Parts.operators.Goals as goal
use Rattle.abs_prelude.specs.Codes.{final, left}

pub returns : goal.returns
returns c = λ names.
    let place = c.args.place in
    let operator = c.args.operator in
    let old = c.args.self.now.expressions.items in
    let one = c.pop-right.new.parts.items in
    let rest = c.pop-left.new.parts.items in
    let more = c.push.new.parts.items in
    let first = c.in_ok-first in
    let operands = c.in_ok-operands in
    let made : Expr = Operators place first.first operands.operands in
    let right = final (NullOf place) (map (expr_tree names) old) in
    on_ok_weaker c.push.result (λ (is : more ≡ rest ++ made ∷ []).
    equal_parts _ _ refl refl refl refl refl
    (map-remade (expr_tree names) 1 one rest more made
    (OperatorsOf place (final (NullOf place) (map (expr_tree names) one)) (NextOperand operator right NoOperands))
    c.pop-left.ensures.rest is
    (operators_made names place operator first.first operands.operands c.pop-right.result
    (final (NullOf place) (map (expr_tree names) one)) right operands.ensures.items
    (ap (expr_tree names) first.ensures.ok
    ∙ tree-final (expr_tree names) (Null place) one c.pop-left.result c.pop-left.ensures.taken)
    (tree-final (expr_tree names) (Null place) old c.pop-right.result c.pop-right.ensures.taken))
    ∙ ap (λ (trees : List ExprTree).
    left 1 trees ++ OperatorsOf place (final (NullOf place) trees) (NextOperand operator right NoOperands) ∷ [])
    (map-left (expr_tree names) 1 old one c.pop-right.ensures.rest)) refl refl)
    c.push.ensures
