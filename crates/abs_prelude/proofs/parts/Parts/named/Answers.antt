use Rattle.std.proofs.Common.{◌≡◌, List, [], ◌∷◌, ◌++◌, refl}
use Rattle.std.proofs.lemmas.Result.{on_ok_weaker}
use Rattle.abs_tree.specs.SyntaxViews.{pattern_tree, expr_tree}
use Rattle.abs_tree.specs.declared.syntax.expression.Expr.{Expr, Apply, Build}
use Rattle.abs_tree.specs.declared.syntax.pattern.Pattern.{Pattern, Built}
use Rattle.abs_prelude.proofs.PartLemmas.{equal_parts, map-remade, pattern_made, apply_made, build_made}
use Rattle.abs_prelude.proofs.parts.Parts.named.Goals as goal

pub returns-in_ok-arguments-in-Built : goal.returns-in_ok-arguments-in-Built
returns-in_ok-arguments-in-Built c = λ names.
    let old = c.args.self.now.patterns.items in
    let count = c.in-Built.count in
    let arguments = c.in_ok-arguments-in-Built.arguments in
    let made : Pattern = Built c.args.place c.args.name arguments in
    on_ok_weaker c.push-in-Built.result (λ (is : c.push-in-Built.new.parts.items ≡ c.last.new.parts.items ++ made ∷ []).
    rw c.in-Built.is (equal_parts _ _ refl refl refl refl
    (map-remade (pattern_tree names) count old c.last.new.parts.items c.push-in-Built.new.parts.items made _
    c.in_ok-arguments-in-Built.ensures.rest is
    (pattern_made names c.args.place c.args.name arguments count old c.in_ok-arguments-in-Built.ensures.taken)) refl refl refl))
    c.push-in-Built.ensures

pub returns-in_ok-arguments-in-Apply : goal.returns-in_ok-arguments-in-Apply
returns-in_ok-arguments-in-Apply c = λ names.
    let old = c.args.self.now.expressions.items in
    let count = c.in-Apply.count in
    let arguments = c.in_ok-arguments-in-Apply.arguments in
    let made : Expr = Apply c.args.place c.args.name arguments in
    on_ok_weaker c.push-in-Apply.result (λ (is : c.push-in-Apply.new.parts.items ≡ c.last-in-Apply.new.parts.items ++ made ∷ []).
    rw c.in-Apply.is (equal_parts _ _ refl refl refl refl refl
    (map-remade (expr_tree names) count old c.last-in-Apply.new.parts.items c.push-in-Apply.new.parts.items made _
    c.in_ok-arguments-in-Apply.ensures.rest is
    (apply_made names c.args.place c.args.name arguments count old c.in_ok-arguments-in-Apply.ensures.taken)) refl refl))
    c.push-in-Apply.ensures

pub returns-in_ok-arguments-in-Build : goal.returns-in_ok-arguments-in-Build
returns-in_ok-arguments-in-Build c = λ names.
    let old = c.args.self.now.expressions.items in
    let count = c.in-Build.count in
    let arguments = c.in_ok-arguments-in-Build.arguments in
    let made : Expr = Build c.args.place c.args.name arguments in
    on_ok_weaker c.push-in-Build.result (λ (is : c.push-in-Build.new.parts.items ≡ c.last-in-Build.new.parts.items ++ made ∷ []).
    rw c.in-Build.is (equal_parts _ _ refl refl refl refl refl
    (map-remade (expr_tree names) count old c.last-in-Build.new.parts.items c.push-in-Build.new.parts.items made _
    c.in_ok-arguments-in-Build.ensures.rest is
    (build_made names c.args.place c.args.name arguments count old c.in_ok-arguments-in-Build.ensures.taken)) refl refl))
    c.push-in-Build.ensures
