use mir.Syntax.{w128}
use Rattle.std.proofs.Common.{FitsSigned, map, refl, rules, false, inl, inr, ⊎_elim}
use Rattle.std.proofs.lemmas.Int.{to_z-of_z}
use Rattle.std.proofs.lemmas.Result.{IfOk-weaker}
use Rattle.abs_tree.specs.SyntaxViews.{variable_tree}
use Rattle.abs_values.specs.ValueViews.{value_tree}
use Rattle.fun_eval.proofs.PatternLemmas.{built_in_memory, matches_any, matches_binds, matches_if, matches_number, matches_string, other_length, so_far_all, so_far_more, so_far_not}
use Rattle.fun_eval.proofs.StackLemmas.{begins_same, pushed}
use Rattle.fun_eval.proofs.patterns.+matching.Goals as goal

pub all_match-returns-then-patterns-values : goal.all_match-returns-then-patterns-values
all_match-returns-then-patterns-values t c =
    rw (other_length c.args.symbols.now c.args.patterns.now c.args.values.now c.if-patterns-values.true)
    (refl, begins_same (map value_tree c.args.bound.now.items))

pub all_match-returns-then-not-branch : goal.all_match-returns-then-not-branch
all_match-returns-then-not-branch t c =
    let steps = c.in-Some.ensures.steps in
    so_far_not c.in-Some.pattern.now c.next.new.self.a.rest.now c.in-Some.value.now c.next.new.self.b.rest.now
    (map value_tree c.matches.new.bound.items) c.in_ok-matches.field-0 steps.0 steps.1 c.loop-pattern.invariant c.if-not-branch.true c.in_ok-matches.ensures

pub all_match-loop-pattern-preserved : goal.all_match-loop-pattern-preserved
all_match-loop-pattern-preserved t c =
    let steps = c.in-Some.ensures.steps in
    so_far_more c.in-Some.pattern.now c.next.new.self.a.rest.now c.in-Some.value.now c.next.new.self.b.rest.now
    c.in_ok-matches.field-0 steps.0 steps.1 c.loop-pattern.invariant c.if-not-branch.false c.in_ok-matches.ensures

pub all_match-returns : goal.all_match-returns
all_match-returns t c =
    so_far_all c.loop-pattern.pattern-iterator.a.rest.now c.loop-pattern.pattern-iterator.b.rest.now
    (⊎_elim (λ left. inl left.1.0) (λ right. inr right.1.0) c.in-None.ensures.steps) c.loop-pattern.invariant

pub matches-returns-in-Any : goal.matches-returns-in-Any
matches-returns-in-Any t c =
    rw c.in-Any.is
    (matches_any c.args.symbols.now c.in-Any.field-0 (value_tree c.args.value.now) (map value_tree c.args.bound.now.items))

pub matches-returns-in_ok-push-in-Binds : goal.matches-returns-in_ok-push-in-Binds
matches-returns-in_ok-push-in-Binds t c =
    rw c.in-Binds.is
    (matches_binds c.args.symbols.now c.in-Binds.field-0 (variable_tree c.args.symbols.now c.in-Binds.field-1)
    (value_tree c.args.value.now) (map value_tree c.args.bound.now.items) (map value_tree c.push.new.self.items)
    (rw (← c.in_ok-share-in-Binds.ensures)
    (pushed c.args.bound.now.items c.push.new.self.items c.in_ok-share-in-Binds.field-0
    c.in_ok-push-in-Binds.ensures.items)))

pub matches-returns-in-Number : goal.matches-returns-in-Number
matches-returns-in-Number t c =
    let fits : FitsSigned w128 c.in-Number.number = search rules in
    rw (c.in-Number.is, c.is_number.ensures, to_z-of_z w128 c.in-Number.number fits)
    (matches_number c.args.symbols.now c.in-Number.field-0 c.in-Number.number (value_tree c.args.value.now)
    (map value_tree c.args.bound.now.items))

pub matches-returns-in-Text : goal.matches-returns-in-Text
matches-returns-in-Text t c =
    rw (c.in-Text.is, c.is_string.ensures, c.as_bytes.ensures)
    (matches_string c.args.symbols.now c.in-Text.field-0 c.in-Text.text (value_tree c.args.value.now)
    (map value_tree c.args.bound.now.items))

pub matches-returns-in-Some : goal.matches-returns-in-Some
matches-returns-in-Some t c =
    let b = c.in-Built in
    let names = c.args.symbols.now in
    let takes = built_in_memory names c.args.pattern.now b.place b.constructor b.arguments (value_tree c.args.value.now) _
    b.is c.parts_of.ensures in
    IfOk-weaker c.all_match.result _ _ (λ answer matches. rw (takes, c.in-Some.is, ← c.deref.ensures.value) matches)
    c.all_match.ensures

pub matches-returns-in-None : goal.matches-returns-in-None
matches-returns-in-None t c =
    let b = c.in-Built in
    let takes = built_in_memory c.args.symbols.now c.args.pattern.now b.place b.constructor b.arguments
    (value_tree c.args.value.now) _ b.is c.parts_of.ensures in
    matches_if _ false (map value_tree c.args.bound.now.items) (rw (takes, c.in-None.is) refl)
