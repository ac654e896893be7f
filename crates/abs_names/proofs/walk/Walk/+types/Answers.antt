use Rattle.std.proofs.Common.{◌≡◌, ◌∙◌, IfOk, Some, None, refl, sym, ap, subst}
use Rattle.std.proofs.lemmas.Result.{IfOk-weaker}
use Rattle.abs_tree.proofs.SyntaxLemmas.{type_tree-unresolved}
use Rattle.abs_tree.specs.SyntaxViews.{type_tree}
use Rattle.abs_names.specs.Visible.{Visible}
use Rattle.abs_names.proofs.FormLemmas.{kept_in}
use Rattle.abs_names.proofs.LoopLemmas.{all_done}
use Rattle.abs_names.proofs.TypeLemmas.{types_step, data_found, looked_up, named_found, named_noted}
use Rattle.abs_names.proofs.walk.Walk.+types.Goals as goal
use Rattle.abs_tree.proofs.FormLemmas.{unresolved_tree, data_tree}
use Rattle.abs_tree.proofs.TreeLemmas.{types_all}

pub type_terms-loop-term-preserved : goal.type_terms-loop-term-preserved
type_terms-loop-term-preserved t c =
    types_step c.term-item.result c.in_ok-type_term.field-0 c.loop-term.invariant c.loop-term-test.true c.term-item.is
    c.in_ok-type_term.ensures.found c.in_ok-type_term.ensures.noted c.in_ok-type_term.ensures.scope
    c.in_ok-push.ensures.items

pub type_terms-returns-clause-found : goal.type_terms-returns-clause-found
type_terms-returns-clause-found t c =
    (all_done c.loop-term.invariant.so_far c.loop-term-test.false (sym (types_all _ c.loop-term.found.items)) refl
    refl).resolved

pub type_terms-returns-clause-noted : goal.type_terms-returns-clause-noted
type_terms-returns-clause-noted t c =
    (all_done c.loop-term.invariant.so_far c.loop-term-test.false (sym (types_all _ c.loop-term.found.items)) refl
    refl).offences

pub type_terms-returns-clause-scope : goal.type_terms-returns-clause-scope
type_terms-returns-clause-scope t c = c.loop-term.invariant.same

pub named_type-returns-in-Some-default-clause-noted : goal.named_type-returns-in-Some-default-clause-noted
named_type-returns-in-Some-default-clause-noted t c =
    let start = c.args.self.now.scope in
    let stands = looked_up c.around.result.now c.around-2.result.now start c.args.name c.type_param-parameter.result
    c.type_named-meaning.result c.type_param-parameter.ensures
    c.type_named-meaning.ensures c.around.ensures.names c.around.ensures.around c.around-2.ensures.names
    c.around-2.ensures.around in
    named_noted start c.note_applied.new.self.scope c.args.place c.args.name c.args.arguments.now
    c.type_param-parameter.result c.type_named-meaning.result c.taken.result c.args.self.now.first
    c.note_applied.new.self.first c.type_terms.new.self.first c.note_applied.ensures.scope stands c.taken.ensures
    c.note_applied.ensures.noted c.in_ok-arguments.ensures.noted

pub named_type-returns-in-None-Some-clause-noted : goal.named_type-returns-in-None-Some-clause-noted
named_type-returns-in-None-Some-clause-noted t c =
    let start = c.args.self.now.scope in
    let stands = looked_up c.around.result.now c.around-2.result.now start c.args.name c.type_param-parameter.result
    c.type_named-meaning.result c.type_param-parameter.ensures
    c.type_named-meaning.ensures c.around.ensures.names c.around.ensures.around c.around-2.ensures.names
    c.around-2.ensures.around in
    IfOk-weaker c.known_type.result _ _
    (λ found known. named_noted start c.note_applied.new.self.scope c.args.place c.args.name c.args.arguments.now
    c.type_param-parameter.result c.type_named-meaning.result c.taken.result c.args.self.now.first
    c.note_applied.new.self.first c.type_terms.new.self.first c.note_applied.ensures.scope stands c.taken.ensures
    c.note_applied.ensures.noted c.in_ok-arguments.ensures.noted)
    (c.known_type.ensures start.names.after)

pub named_type-returns-in-None-Some-clause-found : goal.named_type-returns-in-None-Some-clause-found
named_type-returns-in-None-Some-clause-found t c =
    let start = c.args.self.now.scope in
    let meaning = c.in-None-Some.meaning in
    let stands = looked_up c.around.result.now c.around-2.result.now start c.args.name None
    (Some meaning) (sym c.in-None-Some.is-0 ∙ c.type_param-parameter.ensures)
    (sym c.in-None-Some.is-1 ∙ c.type_named-meaning.ensures) c.around.ensures.names c.around.ensures.around
    c.around-2.ensures.names c.around-2.ensures.around in
    let kept = kept_in c.around-3.result.now start.names c.kept-name.result c.args.name c.kept-name.ensures
    (c.around-3.ensures.names
    ∙ ap (λ (v : Visible). v.names) (c.in_ok-arguments.ensures.scope ∙ c.note_applied.ensures.scope)) in
    subst (λ tree. IfOk c.known_type.result (λ found. type_tree start.names.after found ≡ tree))
    (named_found start c.note_applied.new.self.scope c.args.place c.args.name c.kept-name.result
    c.in_ok-arguments.arguments.items c.args.arguments.now None (Some meaning) c.note_applied.ensures.scope stands kept
    c.in_ok-arguments.ensures.found)
    (c.known_type.ensures start.names.after)

pub named_type-returns-in-None-None-clause-found : goal.named_type-returns-in-None-None-clause-found
named_type-returns-in-None-None-clause-found t c =
    let start = c.args.self.now.scope in
    let stands = looked_up c.around.result.now c.around-2.result.now start c.args.name None
    None (sym c.in-None-None.is-0 ∙ c.type_param-parameter.ensures)
    (sym c.in-None-None.is-1 ∙ c.type_named-meaning.ensures) c.around.ensures.names c.around.ensures.around
    c.around-2.ensures.names c.around-2.ensures.around in
    let kept = kept_in c.around-3.result.now start.names c.kept-name.result c.args.name c.kept-name.ensures
    (c.around-3.ensures.names
    ∙ ap (λ (v : Visible). v.names) (c.in_ok-arguments.ensures.scope ∙ c.note_applied.ensures.scope)) in
    type_tree-unresolved start.names.after c.args.place c.kept-name.result c.in_ok-arguments.arguments
    ∙ named_found start c.note_applied.new.self.scope c.args.place c.args.name c.kept-name.result
    c.in_ok-arguments.arguments.items c.args.arguments.now None None c.note_applied.ensures.scope stands kept
    c.in_ok-arguments.ensures.found

pub type_term-returns-in-Unresolved-clause-found : goal.type_term-returns-in-Unresolved-clause-found
type_term-returns-in-Unresolved-clause-found t c =
    let form = c.in-Unresolved in
    rw (unresolved_tree c.args.self.now.scope.names.before c.args.term.now form.place form.name form.arguments
    c.deref.result.now form.is c.deref.ensures.value)
    c.named_type.ensures.found

pub type_term-returns-in-Unresolved-clause-noted : goal.type_term-returns-in-Unresolved-clause-noted
type_term-returns-in-Unresolved-clause-noted t c =
    let form = c.in-Unresolved in
    rw (unresolved_tree c.args.self.now.scope.names.before c.args.term.now form.place form.name form.arguments
    c.deref.result.now form.is c.deref.ensures.value)
    c.named_type.ensures.noted

pub type_term-returns-in-Data-clause-found : goal.type_term-returns-in-Data-clause-found
type_term-returns-in-Data-clause-found t c =
    let form = c.in-Data in
    rw (data_tree c.args.self.now.scope.names.before c.args.term.now form.place form.name form.arguments
    c.deref-in-Data.result.now form.is c.deref-in-Data.ensures.value)
    c.data_type.ensures.found

pub type_term-returns-in-Data-clause-noted : goal.type_term-returns-in-Data-clause-noted
type_term-returns-in-Data-clause-noted t c =
    let form = c.in-Data in
    rw (data_tree c.args.self.now.scope.names.before c.args.term.now form.place form.name form.arguments
    c.deref-in-Data.result.now form.is c.deref-in-Data.ensures.value)
    c.data_type.ensures.noted

pub data_type-returns-clause-found : goal.data_type-returns-clause-found
data_type-returns-clause-found t c =
    let start = c.args.self.now.scope in
    data_found start c.note_unless.new.self.scope c.args.place c.args.name c.kept-name.result
    c.in_ok-arguments.arguments c.args.arguments.now c.note_unless.ensures.scope
    (kept_in c.around.result.now start.names c.kept-name.result c.args.name c.kept-name.ensures
    (c.around.ensures.names
    ∙ ap (λ (v : Visible). v.names) (c.in_ok-arguments.ensures.scope ∙ c.note_unless.ensures.scope)))
    c.in_ok-arguments.ensures.found
