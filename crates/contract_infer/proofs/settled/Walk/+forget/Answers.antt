use Rattle.std.proofs.Common.{List}
use Rattle.abs_tree.proofs.StatementLemmas.{block_tree, holds_none, if_tree, while_tree}
use Rattle.abs_tree.specs.SyntaxViews.{expr_tree, maybe_statements, statement, statements}
use Rattle.abs_tree.specs.declared.syntax.statement.Stmt.{Stmt}
use Rattle.contract_terms.specs.Settled.{assigned_in}
use Rattle.contract_infer.proofs.SettledStepLemmas.{loop_begins, loop_goes_on, loop_ends}
use Rattle.contract_infer.proofs.SettledWalkLemmas.{forgets_alone, forgets_if, forgets_loop, forgets_no_else}
use Rattle.contract_infer.specs.SettledWalk.{cleared}
use Rattle.contract_infer.proofs.settled.Walk.+forget.Goals as goal

pub forget-loop-stmt-init : goal.forget-loop-stmt-init
forget-loop-stmt-init t c names = loop_begins (forgets_loop names) c.args.self.now

pub forget-loop-stmt-preserved : goal.forget-loop-stmt-preserved
forget-loop-stmt-preserved t c names =
    loop_goes_on (forgets_loop names) c.args.stmts.now c.loop-stmt.stmt-index c.stmt-item.result c.loop-stmt-test.true
    c.stmt-item.is (c.loop-stmt.invariant names) (c.forget_one.ensures names)

pub forget-returns : goal.forget-returns
forget-returns t c names =
    loop_ends (λ (stmts : List Stmt). cleared (assigned_in (statements names stmts))) c.args.stmts.now
    c.loop-stmt.stmt-index c.loop-stmt-test.false (c.loop-stmt.invariant names)

pub forget_one-returns-in-Block : goal.forget_one-returns-in-Block
unfolding assigned_in
forget_one-returns-in-Block t c names =
    let form = c.in-Block in
    rw (block_tree names c.args.stmt.now form.field-0 form.block c.deref.result.now form.is c.deref.ensures.value)
    (c.forget.ensures names)

pub forget_one-returns-in-If : goal.forget_one-returns-in-If
forget_one-returns-in-If t c names =
    let form = c.in-If in
    let first = c.deref-in-If.result.now in
    rw (if_tree names c.args.stmt.now form.index form.place form.condition form.first form.second first form.is
    c.deref-in-If.ensures.value)
    (forgets_if form.index form.place (expr_tree names form.condition.value) (statements names first)
    (maybe_statements names form.second) (c.forget-in-If.ensures names) (c.forget_other.ensures names))

pub forget_one-returns-in-While : goal.forget_one-returns-in-While
unfolding assigned_in
forget_one-returns-in-While t c names =
    let form = c.in-While in
    rw (while_tree names c.args.stmt.now form.index form.place form.condition form.body c.deref-in-While.result.now
    form.is c.deref-in-While.ensures.value)
    (c.forget-in-While.ensures names)

pub forget_one-returns-in_default : goal.forget_one-returns-in_default
forget_one-returns-in_default t c names =
    forgets_alone (statement names c.args.stmt.now)
    (holds_none names c.args.stmt.now c.in_default.not-Block c.in_default.not-If c.in_default.not-While)
    (c.assign.ensures names)

pub forget_other-returns-in-Some : goal.forget_other-returns-in-Some
unfolding assigned_in
forget_other-returns-in-Some t c names = rw (c.in-Some.is, ← c.deref.ensures.value) (c.forget.ensures names)

pub forget_other-returns-in_default : goal.forget_other-returns-in_default
forget_other-returns-in_default t c names = rw c.in_default.is (forgets_no_else c.args.self.now)
