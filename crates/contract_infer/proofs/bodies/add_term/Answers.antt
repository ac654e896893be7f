use Rattle.std.proofs.Common.{◌∙◌, [], ◌∷◌, map, refl, ap, sym}
use Rattle.std.proofs.lemmas.List.{map-append}
use Rattle.abs_program.specs.InstructionViews.{effect_tree, exprs_tree, instruction_tree}
use Rattle.abs_program.specs.Instructions.{EffectTree, InstructionTree}
use Rattle.contract_infer.proofs.ViewLemmas.{instruction_is, term_is_added, no_term_is_added}
use Rattle.contract_infer.specs.BodyViews.{names_of, source_of}
use Rattle.contract_terms.specs.Settled.{settled_names}
use Rattle.contract_terms.specs.Views.{term_tree}
use Rattle.contract_infer.proofs.bodies.add_term.Goals as goal

pub returns-in_ok-push-clause-added : goal.returns-in_ok-push-clause-added
returns-in_ok-push-clause-added c body point fact knows view there settled =
    let names = names_of c.args.checker.now in
    let source = source_of c.args.checker.now in
    let instruction = c.in-Some.instruction.now in
    let same = instruction_is source c.args.index point (instruction_tree names instruction) there c.in-Some.ensures in
    let effect_is = ap (λ (it : InstructionTree). it.effect) same in
    term_is_added source.declarations body c.args.index point fact (effect_tree names instruction.effect)
    (exprs_tree names instruction.exprs) effect_is (ap (λ (it : InstructionTree). it.expr_trees) same)
    (map (term_tree names) c.args.terms.now.items) (map (term_tree names) c.push.new.self.items)
    (term_tree names c.in_ok-term.field-0)
    (sym (c.has_term.ensures names) ∙ c.if-has_term.true)
    (ap (map (term_tree names)) c.in_ok-push.ensures.items
    ∙ map-append (term_tree names) c.args.terms.now.items (c.in_ok-term.field-0 ∷ []))
    c.in_ok-term.ensures.index
    (c.in_ok-term.ensures.found names source.declarations body fact knows view
    (settled ∙ ap (λ (effect : EffectTree). settled_names effect fact) (sym effect_is)))

pub returns-else-has_term-clause-added : goal.returns-else-has_term-clause-added
returns-else-has_term-clause-added c body point fact knows view there settled =
    let names = names_of c.args.checker.now in
    let source = source_of c.args.checker.now in
    let instruction = c.in-Some.instruction.now in
    let same = instruction_is source c.args.index point (instruction_tree names instruction) there c.in-Some.ensures in
    no_term_is_added source.declarations body c.args.index point fact (effect_tree names instruction.effect)
    (exprs_tree names instruction.exprs) (ap (λ (it : InstructionTree). it.effect) same)
    (ap (λ (it : InstructionTree). it.expr_trees) same) (map (term_tree names) c.args.terms.now.items) _
    (sym (c.has_term.ensures names) ∙ c.if-has_term.false) refl
