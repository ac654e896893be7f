use Rattle.std.proofs.Common.{◌≡◌, ◌∙◌, Some, refl, sym, subst}
use Rattle.std.specs.Prelude.{slice_get}
use Rattle.abs_tree.specs.SyntaxViews.{decl_tree}
use Rattle.abs_tree.specs.declared.syntax.declaration.Decl.{Decl}
use Rattle.contract_infer.proofs.GatheringLemmas.{other_gathered}
use Rattle.contract_infer.specs.BodyViews.{names_of, source_of}
use Rattle.contract_infer.proofs.classes.declaration_terms.Goals as goal

pub class_terms-requires-clause-there : goal.class_terms-requires-clause-there
class_terms-requires-clause-there c =
    let source = source_of c.args.checker.now in
    let there = subst (λ (it : Decl). slice_get source.declarations c.args.class
    ≡ Some (decl_tree (names_of c.args.checker.now) it)) c.in-Class.is c.requires.there in
    rw (c.as_slice.ensures.value, c.as_slice-in-Class.ensures.value) (record {
      place = _;
      declared = _;
      implemented = _;
      named = refl;
      there = there;
    })

pub returns-in-Data-clause-found : goal.returns-in-Data-clause-found
returns-in-Data-clause-found c =
    let source = source_of c.args.checker.now in
    let names = names_of c.args.checker.now in
    let there = subst (λ (it : Decl). slice_get source.declarations c.args.class ≡ Some (decl_tree names it)) c.in-Data.is
    c.requires.there in
    other_gathered source names c.args.class _ c.no_class.result there (λ never. never) c.no_class.ensures.found
    (c.requires.start ∙ sym c.no_class.ensures.next)

pub returns-in-Function-clause-found : goal.returns-in-Function-clause-found
returns-in-Function-clause-found c =
    let source = source_of c.args.checker.now in
    let names = names_of c.args.checker.now in
    let there = subst (λ (it : Decl). slice_get source.declarations c.args.class ≡ Some (decl_tree names it))
    c.in-Function.is c.requires.there in
    other_gathered source names c.args.class _ c.no_class-in-Function.result there (λ never. never)
    c.no_class-in-Function.ensures.found (c.requires.start ∙ sym c.no_class-in-Function.ensures.next)

pub returns-in-Interface-clause-found : goal.returns-in-Interface-clause-found
returns-in-Interface-clause-found c =
    let source = source_of c.args.checker.now in
    let names = names_of c.args.checker.now in
    let there = subst (λ (it : Decl). slice_get source.declarations c.args.class ≡ Some (decl_tree names it))
    c.in-Interface.is c.requires.there in
    other_gathered source names c.args.class _ c.no_class-in-Interface.result there (λ never. never)
    c.no_class-in-Interface.ensures.found (c.requires.start ∙ sym c.no_class-in-Interface.ensures.next)
