use Rattle.std.proofs.Common.{◌≡◌, List, [], ◌∷◌, ◌++◌, refl, ap, ◌∙◌, map}
use Rattle.std.proofs.lemmas.Result.{on_ok_weaker}
use Rattle.abs_tree.specs.Syntax.{NullOf, ExprTree, PatternTree}
use Rattle.abs_tree.specs.SyntaxViews.{pattern_tree, expr_tree}
use Rattle.abs_tree.specs.declared.syntax.expression.Branch.{Branch}
use Rattle.abs_tree.specs.declared.syntax.expression.Expr.{Expr, Case, Null}
use Rattle.abs_tree.specs.declared.syntax.pattern.Pattern.{Any}
use Rattle.abs_prelude.proofs.PartLemmas.{both, case_made, equal_parts, map-left, map-one_more, map-remade, tree-final}
use Rattle.abs_prelude.proofs.parts.Parts.plain.Goals as goal
use Rattle.abs_prelude.specs.Codes.{final}
use Rattle.abs_prelude.specs.PartViews.{branch_tree}

pub returns-in-Branch : goal.returns-in-Branch
returns-in-Branch c = λ names.
    let place = c.args.place in
    let old = c.args.self.now in
    let made : Branch = record { pattern = c.pop-pattern.result; value = c.pop-value.result } in
    on_ok_weaker c.push-in-Branch.result
    (λ (is : c.push-in-Branch.new.parts.items ≡ old.branches.items ++ made ∷ []).
    rw c.in-Branch.is (equal_parts _ _ refl refl refl refl
    (map-left (pattern_tree names) 1 old.patterns.items c.pop-pattern.new.parts.items c.pop-pattern.ensures.rest)
    (map-left (expr_tree names) 1 old.expressions.items c.pop-value.new.parts.items c.pop-value.ensures.rest)
    (map-one_more (branch_tree names) old.branches.items c.push-in-Branch.new.parts.items made _ is
    (both (λ (pattern : PatternTree) (value : ExprTree). record { pattern = pattern; value = value })
    (tree-final (pattern_tree names) (Any place) old.patterns.items c.pop-pattern.result c.pop-pattern.ensures.taken)
    (tree-final (expr_tree names) (Null place) old.expressions.items c.pop-value.result c.pop-value.ensures.taken))) refl))
    c.push-in-Branch.ensures

pub returns-in_ok-subject-in-Case : goal.returns-in_ok-subject-in-Case
returns-in_ok-subject-in-Case c = λ names.
    let place = c.args.place in
    let count = c.in-Case.count in
    let old = c.args.self.now in
    let rest = c.pop-looked_at.new.parts.items in
    let more = c.push-in-Case.new.parts.items in
    let branches = c.in_ok-branches-in-Case in
    let subject = c.in_ok-subject-in-Case in
    let made : Expr = Case place subject.subject branches.branches in
    on_ok_weaker c.push-in-Case.result (λ (is : more ≡ rest ++ made ∷ []).
    rw c.in-Case.is (equal_parts _ _ refl refl refl refl refl
    (map-remade (expr_tree names) 1 old.expressions.items rest more made _ c.pop-looked_at.ensures.rest is
    (case_made names place subject.subject branches.branches count old.branches.items
    (final (NullOf place) (map (expr_tree names) old.expressions.items))
    (ap (expr_tree names) subject.ensures.ok
    ∙ tree-final (expr_tree names) (Null place) old.expressions.items c.pop-looked_at.result c.pop-looked_at.ensures.taken)
    branches.ensures.taken))
    (map-left (branch_tree names) count old.branches.items c.last.new.parts.items branches.ensures.rest) refl))
    c.push-in-Case.ensures

pub returns-in-Operators : goal.returns-in-Operators
returns-in-Operators c = λ names. rw c.in-Operators.is (c.operators.ensures names)

pub returns-in-If : goal.returns-in-If
returns-in-If c = λ names. rw c.in-If.is (c.choice.ensures names)
