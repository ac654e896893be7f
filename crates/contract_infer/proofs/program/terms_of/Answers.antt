use Rattle.std.proofs.Common.{ℕ, List, arith, ap, ◌∙◌, subst, length, get_or}
use Rattle.abs_program.specs.NamedViews.{program_tree}
use Rattle.abs_tree.specs.declared.syntax.declaration.Decl.{Decl}
use Rattle.contract_infer.proofs.ClassTermLemmas.{classes_start, classes_step, classes_whole, declaration_there, declaration_starts, main_gathered}
use Rattle.contract_infer.proofs.GatheringLemmas.{all_gathered}
use Rattle.contract_infer.specs.BodyViews.{names_of, source_of}
use Rattle.contract_infer.specs.ClassViews.{IsGathered}
use Rattle.contract_infer.proofs.program.terms_of.Goals as goal

pub loop-index-init : goal.loop-index-init
loop-index-init c =
    classes_start c.args.program.now c.new-checker.result _ c.new-checker.ensures.program c.new-classes.ensures.items

pub declaration_terms-requires-clause-there : goal.declaration_terms-requires-clause-there
declaration_terms-requires-clause-there c =
    declaration_there c.in_ok-in_32_bits.field-0 c.declaration-item.result c.loop-index.invariant
    c.in_ok-in_32_bits.ensures
    (omega (arith, c.loop-index-test.true, ap length c.deref-declaration-items.ensures.value))
    (c.declaration-item.is
    ∙ ap (λ (list : List Decl). get_or list c.loop-index.index c.declaration-item.result)
    c.deref-declaration-items.ensures.value)

pub declaration_terms-requires-clause-start : goal.declaration_terms-requires-clause-start
declaration_terms-requires-clause-start c =
    declaration_starts c.in_ok-in_32_bits.field-0 c.loop-index.invariant c.in_ok-in_32_bits.ensures

pub loop-index-preserved : goal.loop-index-preserved
loop-index-preserved c =
    let gathered = c.in_ok-gathered.gathered in
    let here = subst (λ (n : ℕ). IsGathered (source_of c.loop-index.checker) (names_of c.loop-index.checker) n gathered)
    c.in_ok-in_32_bits.ensures c.in_ok-gathered.ensures.found in
    classes_step c.args.program.now c.loop-index.checker c.declaration_terms.new.checker c.loop-index.index
    c.loop-index.next c.loop-index.classes.items c.push.new.self.items gathered c.loop-index.invariant
    c.in_ok-gathered.ensures.keeps here c.in_ok-push.ensures.items

pub returns : goal.returns
returns c =
    let count = ap length c.deref-declaration-items.ensures.value in
    all_gathered (program_tree c.args.program.now) _
    (main_gathered c.in_ok-main_terms.field-0.items c.loop-index.invariant
    (omega (arith, c.loop-index-test.false, count)) c.in_ok-main_terms.ensures)
    (classes_whole c.loop-index.invariant
    (omega (arith, c.loop-index-test.false, c.loop-index.auto.index-end, count))) c.in_ok-classes_made.ensures
