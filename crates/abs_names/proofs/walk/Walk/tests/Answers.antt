use Rattle.std.proofs.Common.{◌∙◌, refl, sym, ap, fold}
use Rattle.abs_tree.specs.Offences.{earlier}
use Rattle.abs_tree.specs.declared.syntax.expression.Expr.{Expr}
use Rattle.abs_tree.specs.SyntaxViews.{expr_tree}
use Rattle.abs_names.specs.NameOffences.{expr_offences}
use Rattle.abs_names.specs.Resolution.{resolved_expr}
use Rattle.abs_names.proofs.LoopLemmas.{all_done}
use Rattle.abs_names.proofs.RowLemmas.{tests_step}
use Rattle.abs_names.proofs.walk.Walk.tests.Goals as goal
use Rattle.abs_tree.proofs.TreeLemmas.{tests_all}

pub loop-test-preserved : goal.loop-test-preserved
loop-test-preserved c =
    let item = c.test-item.result in
    let now = c.loop-test.self.scope in
    tests_step item (record { place = item.place; value = c.in_ok-value.value; asks = item.asks })
    c.loop-test.invariant c.loop-test-test.true c.test-item.is refl refl
    (c.in_ok-value.ensures.found
    ∙ ap (λ (e : Expr). resolved_expr now.scope (expr_tree now.names.before e)) c.deref.ensures)
    (c.in_ok-value.ensures.noted
    ∙ ap (λ (e : Expr). fold earlier c.loop-test.self.first (expr_offences now.scope (expr_tree now.names.before e)))
    c.deref.ensures)
    c.in_ok-value.ensures.scope c.in_ok-push.ensures.items

pub returns-clause-found : goal.returns-clause-found
returns-clause-found c =
    (all_done c.loop-test.invariant.so_far c.loop-test-test.false (sym (tests_all _ c.loop-test.found.items)) refl
    refl).resolved

pub returns-clause-noted : goal.returns-clause-noted
returns-clause-noted c =
    (all_done c.loop-test.invariant.so_far c.loop-test-test.false (sym (tests_all _ c.loop-test.found.items)) refl
    refl).offences

pub returns-clause-scope : goal.returns-clause-scope
returns-clause-scope c = c.loop-test.invariant.same
