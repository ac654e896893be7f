use Rattle.std.proofs.Common.{◌∙◌, sym, ap}
use Rattle.abs_tree.specs.Names.{name_of}
use Rattle.abs_tree.specs.SyntaxViews.{pattern_trees}
use Rattle.abs_names.specs.Scopes.{patterns_scope}
use Rattle.abs_names.specs.TypeNames.{constructor_taking}
use Rattle.abs_names.specs.Visible.{Visible}
use Rattle.abs_names.proofs.FormLemmas.{in_scope, kept_in}
use Rattle.abs_names.proofs.PatternLemmas.{patterns_step, patterns_done, built_found, built_noted}
use Rattle.abs_names.proofs.walk.Walk.+patterns.Goals as goal
use Rattle.abs_tree.proofs.FormLemmas.{built_tree}

pub patterns-loop-part-preserved : goal.patterns-loop-part-preserved
patterns-loop-part-preserved t c =
    patterns_step c.part-item.result c.in_ok-pattern.field-0 c.loop-part.invariant c.loop-part-test.true
    c.part-item.is c.in_ok-pattern.ensures.found c.in_ok-pattern.ensures.noted c.in_ok-pattern.ensures.names
    c.in_ok-pattern.ensures.bound c.in_ok-push.ensures.items

pub patterns-returns-clause-found : goal.patterns-returns-clause-found
patterns-returns-clause-found t c = (patterns_done c.loop-part.invariant c.loop-part-test.false).resolved

pub patterns-returns-clause-noted : goal.patterns-returns-clause-noted
patterns-returns-clause-noted t c = (patterns_done c.loop-part.invariant c.loop-part-test.false).offences

pub patterns-returns-clause-names : goal.patterns-returns-clause-names
patterns-returns-clause-names t c = c.loop-part.invariant.names_are

pub patterns-returns-clause-bound : goal.patterns-returns-clause-bound
patterns-returns-clause-bound t c = (patterns_done c.loop-part.invariant c.loop-part-test.false).ends

pub pattern-returns-in_ok-arguments-in-Built-clause-found
    : goal.pattern-returns-in_ok-arguments-in-Built-clause-found
pattern-returns-in_ok-arguments-in-Built-clause-found t c =
    let start = c.args.self.now.scope in
    let form = c.in-Built in
    rw (built_tree start.names.before c.args.pattern.now form.place form.constructor form.arguments c.deref.result.now
    form.is c.deref.ensures.value)
    (built_found start c.note_applied.new.self.scope form.place form.constructor c.kept.result
    c.in_ok-arguments-in-Built.arguments c.deref.result.now c.note_applied.ensures.scope
    (kept_in c.around-in-Built.result.now start.names c.kept.result form.constructor c.kept.ensures
    (c.around-in-Built.ensures.names
    ∙ (c.in_ok-arguments-in-Built.ensures.names ∙ ap (λ (v : Visible). v.names) c.note_applied.ensures.scope)))
    c.in_ok-arguments-in-Built.ensures.found)

pub pattern-returns-in_ok-arguments-in-Built-clause-noted
    : goal.pattern-returns-in_ok-arguments-in-Built-clause-noted
pattern-returns-in_ok-arguments-in-Built-clause-noted t c =
    let start = c.args.self.now.scope in
    let form = c.in-Built in
    rw (built_tree start.names.before c.args.pattern.now form.place form.constructor form.arguments c.deref.result.now
    form.is c.deref.ensures.value)
    (built_noted start c.note_applied.new.self.scope form.place form.constructor c.deref.result.now
    c.constructor_taking-taken.result c.len.result c.args.self.now.first c.note_applied.new.self.first
    c.patterns.new.self.first c.note_applied.ensures.scope (c.len.ensures ∙ sym c.deref.ensures.len)
    (c.constructor_taking-taken.ensures
    ∙ in_scope (λ a ns. constructor_taking a (name_of ns form.constructor)) c.around.result.now start
    c.around.ensures.names c.around.ensures.around)
    c.note_applied.ensures.noted c.in_ok-arguments-in-Built.ensures.noted)

pub pattern-returns-in_ok-arguments-in-Built-clause-bound
    : goal.pattern-returns-in_ok-arguments-in-Built-clause-bound
pattern-returns-in_ok-arguments-in-Built-clause-bound t c =
    let start = c.args.self.now.scope in
    let form = c.in-Built in
    rw (built_tree start.names.before c.args.pattern.now form.place form.constructor form.arguments c.deref.result.now
    form.is c.deref.ensures.value)
    (c.in_ok-arguments-in-Built.ensures.bound
    ∙ ap (λ (v : Visible). patterns_scope v.scope (pattern_trees v.names.before c.deref.result.now))
    c.note_applied.ensures.scope)
