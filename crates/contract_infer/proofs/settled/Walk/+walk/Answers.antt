use Rattle.std.proofs.Common.{Bool, false, List, get_or, refl, ap, subst, ◌∙◌}
use Rattle.std.specs.declared.alloc.Global.{Global}
use Rattle.std.specs.declared.vec.Vec.{Vec}
use Rattle.abs_program.specs.Flows.{fact_after}
use Rattle.abs_tree.proofs.StatementLemmas.{block_tree, holds_none, if_tree, while_tree}
use Rattle.abs_tree.specs.SyntaxViews.{maybe_statements, statement, statements}
use Rattle.abs_tree.specs.declared.syntax.statement.Stmt.{Stmt}
use Rattle.contract_infer.proofs.SettledStepLemmas.{loop_begins, loop_goes_on, loop_ends}
use Rattle.contract_infer.proofs.SettledWalkLemmas.{passes_alone, passes_body, passes_branches, passes_loop, passes_no_else}
use Rattle.contract_infer.specs.SettledWalk.{kept, passed, rows_in, Does}
use Rattle.contract_infer.proofs.settled.Walk.+walk.Goals as goal

pub statements-loop-stmt-init : goal.statements-loop-stmt-init
statements-loop-stmt-init t c names = loop_begins (passes_loop names) c.args.self.now

pub statements-loop-stmt-preserved : goal.statements-loop-stmt-preserved
statements-loop-stmt-preserved t c names =
    loop_goes_on (passes_loop names) c.args.stmts.now c.loop-stmt.stmt-index c.stmt-item.result c.loop-stmt-test.true
    c.stmt-item.is (c.loop-stmt.invariant names) (c.statement.ensures names)

pub statements-returns : goal.statements-returns
statements-returns t c names =
    loop_ends (λ (stmts : List Stmt). passed (statements names stmts)) c.args.stmts.now c.loop-stmt.stmt-index
    c.loop-stmt-test.false (c.loop-stmt.invariant names)

pub statement-returns-in-Block : goal.statement-returns-in-Block
unfolding fact_after rows_in
statement-returns-in-Block t c names =
    let form = c.in-Block in
    rw (block_tree names c.args.stmt.now form.field-0 form.block c.deref.result.now form.is c.deref.ensures.value)
    (c.statements.ensures names)

pub statement-returns-in-If : goal.statement-returns-in-If
unfolding fact_after rows_in
statement-returns-in-If t c names =
    let form = c.in-If in
    rw (if_tree names c.args.stmt.now form.index form.place form.condition form.first form.second
    c.deref-in-If.result.now form.is c.deref-in-If.ensures.value)
    (c.branches.ensures names)

pub statement-returns-in-While : goal.statement-returns-in-While
unfolding fact_after rows_in
statement-returns-in-While t c names =
    let form = c.in-While in
    rw (while_tree names c.args.stmt.now form.index form.place form.condition form.body c.deref-in-While.result.now
    form.is c.deref-in-While.ensures.value)
    (c.body.ensures names)

pub statement-returns-in_default : goal.statement-returns-in_default
statement-returns-in_default t c names =
    passes_alone (statement names c.args.stmt.now)
    (holds_none names c.args.stmt.now c.in_default.not-Block c.in_default.not-If c.in_default.not-While)
    (c.alone.ensures names)

pub other-returns-in-Some : goal.other-returns-in-Some
unfolding fact_after rows_in
other-returns-in-Some t c names = rw (c.in-Some.is, ← c.deref.ensures.value) (c.statements.ensures names)

pub other-returns-in_default : goal.other-returns-in_default
other-returns-in_default t c names = rw c.in_default.is (passes_no_else c.args.self.now)

pub branches-returns : goal.branches-returns
branches-returns t c names =
    let one = c.statements.new.self in
    let kept_are = c.as_slice.ensures.value
    ∙ ap (λ (bits : Vec Bool Global). bits.items) c.replace-after_first.ensures.value in
    passes_branches (statements names c.args.first.now) (maybe_statements names c.args.second.now)
    (rw c.new.ensures.items at c.push.ensures) (c.statements.ensures names)
    (record {
      settled_are = ap (λ (bits : Vec Bool Global). bits.items) c.replace-after_first.ensures.after ∙ c.in-Ok.ensures;
      rows_are = refl;
      failed_is = refl;
    })
    (c.other.ensures names)
    (subst (λ (bits : List Bool). Does (kept (λ slot. get_or bits slot false)) c.other.new.self c.keep.new.self)
    kept_are c.keep.ensures)

pub body-returns : goal.body-returns
body-returns t c names =
    passes_body (statements names c.args.body.now) (rw c.new.ensures.items at c.push.ensures) (c.forget.ensures names)
    (c.statements.ensures names) (record { settled_are = c.in-Ok.ensures; rows_are = refl; failed_is = refl })
