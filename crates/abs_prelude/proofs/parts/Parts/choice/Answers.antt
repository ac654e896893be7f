use Rattle.std.proofs.Common.{◌≡◌, List, [], ◌∷◌, ◌++◌, refl, ap, ◌∙◌, map}
use Rattle.std.proofs.lemmas.Result.{on_ok_weaker}
use Rattle.abs_tree.specs.Syntax.{NullOf, ExprTree, IfElse}
use Rattle.abs_tree.specs.SyntaxViews.{expr_tree}
use Rattle.abs_tree.specs.declared.syntax.expression.Expr.{Expr, Null, If}
use Rattle.abs_prelude.proofs.PartLemmas.{both, equal_parts, if_made, map-left, map-remade, tree-final}
use Rattle.abs_prelude.proofs.parts.Parts.choice.Goals as goal
use Rattle.abs_prelude.specs.Codes.{final, left}

pub returns : goal.returns
returns c = λ names.
    let place = c.args.place in
    let old = c.args.self.now.expressions.items in
    let one = c.pop-no.new.parts.items in
    let two = c.pop-yes.new.parts.items in
    let rest = c.pop-test.new.parts.items in
    let more = c.push.new.parts.items in
    let condition = c.in_ok-condition in
    let first = c.in_ok-first in
    let second = c.in_ok-second in
    let made : Expr = If place condition.condition first.first second.second in
    let end = final (NullOf place) (map (expr_tree names) old) in
    let one_is : map (expr_tree names) one ≡ left 1 (map (expr_tree names) old) =
    map-left (expr_tree names) 1 old one c.pop-no.ensures.rest in
    let two_is : map (expr_tree names) two ≡ left 1 (map (expr_tree names) one) =
    map-left (expr_tree names) 1 one two c.pop-yes.ensures.rest in
    on_ok_weaker c.push.result (λ (is : more ≡ rest ++ made ∷ []).
    equal_parts _ _ refl refl refl refl refl
    (map-remade (expr_tree names) 1 two rest more made
    (IfElse place (final (NullOf place) (map (expr_tree names) two)) (final (NullOf place) (map (expr_tree names) one)) end)
    c.pop-test.ensures.rest is
    (if_made names place condition.condition first.first second.second
    (final (NullOf place) (map (expr_tree names) two)) (final (NullOf place) (map (expr_tree names) one)) end
    (ap (expr_tree names) condition.ensures.ok
    ∙ tree-final (expr_tree names) (Null place) two c.pop-test.result c.pop-test.ensures.taken)
    (ap (expr_tree names) first.ensures.ok
    ∙ tree-final (expr_tree names) (Null place) one c.pop-yes.result c.pop-yes.ensures.taken)
    (ap (expr_tree names) second.ensures.ok
    ∙ tree-final (expr_tree names) (Null place) old c.pop-no.result c.pop-no.ensures.taken))
    ∙ both (λ (a b : List ExprTree).
    left 1 a ++ IfElse place (final (NullOf place) a) (final (NullOf place) b) end ∷ [])
    (two_is ∙ ap (left 1) one_is) one_is) refl refl)
    c.push.ensures
