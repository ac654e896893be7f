use denote.Ref.{Bor}
use Rattle.std.proofs.Common.{◌≡◌, ◌∙◌, [], ap, map, refl, IfOk}
use Rattle.abs_program.specs.NamedViews.{named_tree}
use Rattle.abs_program.specs.ProgramBodies.IsBodyOf.{OfMain}
use Rattle.abs_program.specs.declared.named.Named.{Named}
use Rattle.abs_tree.specs.SyntaxViews.{statements}
use Rattle.abs_types.specs.SlotTypes.{slot_types}
use Rattle.check_fun.proofs.ContextLemmas.{found_stays}
use Rattle.contract_infer.proofs.MethodTermLemmas.{gives_entered, main_entered}
use Rattle.contract_infer.specs.BodyViews.{names_of, source_of}
use Rattle.contract_infer.specs.DeclaredTypes.{maybe_types}
use Rattle.contract_terms.specs.Accepts.{accepts_of}
use Rattle.contract_terms.specs.BodyContexts.{BodyContext, main_context}
use Rattle.contract_terms.specs.Terms.{AreTerms}
use Rattle.contract_terms.specs.Views.{accepts_tree, term_tree}
use Rattle.contract_infer.proofs.classes.main_terms.Goals as goal

pub enter_body-requires-clause-task : goal.enter_body-requires-clause-task
enter_body-requires-clause-task c = found_stays c.in_ok-slots.ensures.stays c.in_ok-unit.ensures.found.found_is

pub returns : goal.returns
returns c main_is index_is =
    let names = names_of c.args.checker.now in
    let source = source_of c.args.checker.now in
    let types : maybe_types names c.in_ok-types.types.items ≡ slot_types [] source.main =
    c.in_ok-types.ensures names ∙ ap (slot_types []) (ap (statements names) c.as_slice.ensures.value ∙ main_is) in
    let answer : Bor Named → BodyContext → Type 0 = λ program body. IfOk c.terms_of_body.result
    (λ found. AreTerms (named_tree program.now) body (map (term_tree program.now.symbols) found.items)) in
    gives_entered _ c.args.first c.as_slice-6.result.now answer c.in_ok-unit.ensures.stays c.in_ok-slots.ensures.stays
    c.enter_body.ensures.table c.terms_of_body.ensures.found (main_context source)
    (main_entered c.in_ok-slots.slots.items c.as_slice-2.result.now c.new.ensures.items c.in_ok-unit.ensures.stays
    c.in_ok-slots.ensures.stays c.in_ok-unit.ensures.found c.in_ok-slots.ensures.found c.enter_body.ensures.knows
    (ap (maybe_types names) c.as_slice-2.ensures.value ∙ types))
    (record {
      slots = ap (map (accepts_tree names)) c.as_slice-5.ensures.value
          ∙ (c.in_ok-accepts.ensures ∙ ap (map (accepts_of source.declarations))
          (ap (maybe_types names) c.as_slice-3.ensures.value ∙ types));
      fields = refl;
      result = refl;
    })
    (OfMain refl) index_is
    (rw c.as_slice-6.ensures.value (rw (c.as_slice-4.ensures.value, main_is) at (c.in_ok-rows.ensures names)))
