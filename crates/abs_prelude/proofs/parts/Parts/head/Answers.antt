use Rattle.std.proofs.Common.{◌≡◌, List, [], ◌∷◌, ◌++◌, refl}
use Rattle.std.proofs.lemmas.Result.{on_ok_weaker}
use Rattle.abs_tree.specs.SyntaxViews.{constructor_tree, param_tree, type_tree}
use Rattle.abs_tree.specs.declared.syntax.declaration.Constructor.{Constructor}
use Rattle.abs_tree.specs.declared.syntax.declaration.Param.{Param}
use Rattle.abs_tree.specs.declared.syntax.types.TypeTerm.{TypeTerm, Unresolved, Bottom}
use Rattle.abs_tree.specs.declared.syntax.variable.Variable.TheVariants as variable
use Rattle.abs_tree.specs.Names.{name_of}
use Rattle.abs_tree.specs.Syntax.{Unresolved as UnresolvedTree}
use Rattle.abs_prelude.proofs.PartLemmas.{equal_parts, map-left, map-one_more, map-remade, type_made, types_taken, tree-final}
use Rattle.std.proofs.Common.{ap}
use Rattle.abs_prelude.proofs.parts.Parts.head.Goals as goal

pub returns-in_ok-arguments-in-Type : goal.returns-in_ok-arguments-in-Type
returns-in_ok-arguments-in-Type c = λ names.
    let old = c.args.self.now.types.items in
    let count = c.in-Type.count in
    let arguments = c.in_ok-arguments-in-Type.arguments in
    let made : TypeTerm = Unresolved c.args.place c.args.name arguments in
    on_ok_weaker c.push.result (λ (is : c.push.new.parts.items ≡ c.last.new.parts.items ++ made ∷ []).
    rw c.in-Type.is (equal_parts _ _
    (map-remade (type_tree names) count old c.last.new.parts.items c.push.new.parts.items made _
    c.in_ok-arguments-in-Type.ensures.rest is
    (type_made names c.args.place c.args.name arguments count old c.in_ok-arguments-in-Type.ensures.taken)) refl refl refl
    refl refl refl refl))
    c.push.ensures

pub returns-in_ok-types-in-Constructor : goal.returns-in_ok-types-in-Constructor
returns-in_ok-types-in-Constructor c = λ names.
    let old = c.args.self.now.types.items in
    let before = c.args.self.now.constructors.items in
    let count = c.in-Constructor.count in
    let types = c.in_ok-types-in-Constructor.types in
    let made : Constructor = record { name = record { place = c.args.place; name = c.args.name }; types = types } in
    on_ok_weaker c.push-in-Constructor.result (λ (is : c.push-in-Constructor.new.parts.items ≡ before ++ made ∷ []).
    rw c.in-Constructor.is (equal_parts _ _
    (map-left (type_tree names) count old c.last-in-Constructor.new.parts.items
    c.in_ok-types-in-Constructor.ensures.rest) refl
    (map-one_more (constructor_tree names) before c.push-in-Constructor.new.parts.items made _ is
    (ap (λ trees. record {
      name = record { place = c.args.place; name = name_of names c.args.name };
      types = trees;
    }) (types_taken names count old types.items c.in_ok-types-in-Constructor.ensures.taken))) refl refl refl refl refl))
    c.push-in-Constructor.ensures

pub returns-in-Parameter : goal.returns-in-Parameter
returns-in-Parameter c = λ names.
    let old = c.args.self.now.types.items in
    let before = c.args.self.now.params.items in
    let made : Param = record {
      type_of = c.pop-type_of.result;
      place = c.args.place;
      variable = variable.Unresolved c.args.name;
    } in
    on_ok_weaker c.push-in-Parameter.result (λ (is : c.push-in-Parameter.new.parts.items ≡ before ++ made ∷ []).
    rw c.in-Parameter.is (equal_parts _ _
    (map-left (type_tree names) 1 old c.pop-type_of.new.parts.items c.pop-type_of.ensures.rest) refl refl
    (map-one_more (param_tree names) before c.push-in-Parameter.new.parts.items made _ is
    (ap (λ tree. record {
      type_of = tree;
      place = c.args.place;
      variable = UnresolvedTree (name_of names c.args.name);
    }) (tree-final (type_tree names) Bottom old c.pop-type_of.result c.pop-type_of.ensures.taken))) refl refl refl refl))
    c.push-in-Parameter.ensures
