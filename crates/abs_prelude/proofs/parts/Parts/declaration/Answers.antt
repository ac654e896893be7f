use Rattle.std.proofs.Common.{◌≡◌, [], ◌∷◌, ◌++◌, refl, ap, ◌∙◌, map}
use Rattle.std.proofs.lemmas.Result.{on_ok_weaker}
use Rattle.std.specs.declared.alloc.Global.{Global}
use Rattle.std.specs.declared.vec.Vec.{Vec}
use Rattle.abs_tree.specs.SyntaxViews.{declared, decl_tree, param_tree, expr_tree, type_tree}
use Rattle.abs_tree.specs.declared.syntax.declaration.Decl.{Decl}
use Rattle.abs_tree.specs.declared.syntax.declaration.Decl.TheVariants as decl
use Rattle.abs_tree.specs.declared.syntax.declaration.Declared.{Declared}
use Rattle.abs_tree.specs.declared.syntax.declaration.Param.{Param}
use Rattle.abs_tree.specs.declared.syntax.expression.Expr.{Null}
use Rattle.abs_tree.specs.declared.syntax.types.TypeTerm.{Bottom}
use Rattle.abs_prelude.proofs.PartLemmas.{emptied, equal_functions, equal_parts, map-left, map-one_more, tree-final}
use Rattle.abs_prelude.proofs.parts.Parts.declaration.Goals as goal

pub returns-in_ok-value-in-Function : goal.returns-in_ok-value-in-Function
returns-in_ok-value-in-Function c = λ names.
    let old = c.args.self.now in
    let place = c.args.place in
    let type = c.pop-type_of in
    let expression = c.pop-expression in
    let made : Decl =
    decl.Function place type.result c.args.name c.replace-type_params.result c.replace-params.result
    c.in_ok-value-in-Function.value in
    on_ok_weaker c.push-in-Function.result
    (λ (is : c.push-in-Function.new.parts.items ≡ old.declarations.items ++ made ∷ []).
    rw c.in-Function.is (equal_parts _ _
    (map-left (type_tree names) 1 old.types.items type.new.parts.items type.ensures.rest)
    (emptied (declared names) c.replace-type_params.new.dest c.new.result c.replace-type_params.ensures.after
    c.new.ensures.items) refl
    (emptied (param_tree names) c.replace-params.new.dest c.new-in-Function.result c.replace-params.ensures.after
    c.new-in-Function.ensures.items) refl
    (map-left (expr_tree names) 1 old.expressions.items expression.new.parts.items expression.ensures.rest) refl
    (map-one_more (decl_tree names) old.declarations.items c.push-in-Function.new.parts.items made _ is
    (equal_functions place (declared names c.args.name)
    (tree-final (type_tree names) Bottom old.types.items type.result type.ensures.taken)
    (ap (λ (parts : Vec Declared Global). map (declared names) parts.items) c.replace-type_params.ensures.value)
    (ap (λ (parts : Vec Param Global). map (param_tree names) parts.items) c.replace-params.ensures.value)
    (ap (expr_tree names) c.in_ok-value-in-Function.ensures.ok
    ∙ tree-final (expr_tree names) (Null place) old.expressions.items expression.result expression.ensures.taken)))))
    c.push-in-Function.ensures
