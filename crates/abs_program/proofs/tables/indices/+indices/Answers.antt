use Rattle.std.proofs.Common.{◌≡◌, ℕ, ◌+◌, arith, subst}
use Rattle.std.specs.Prelude.{IfOk}
use Rattle.abs_tree.proofs.StatementCountLemmas.{count_of-block, count_of-if, count_of-while}
use Rattle.abs_tree.specs.SyntaxSizes.{count_of, count_of_else, statement_count}
use Rattle.abs_tree.specs.SyntaxViews.{maybe_statements, statement, statements}
use Rattle.abs_program.proofs.tables.indices.+indices.Goals as goal

pub after_statement-returns-in-Block : goal.after_statement-returns-in-Block
after_statement-returns-in-Block t c names =
    let form = c.in-Block in
    rw (count_of-block names c.args.statement.now form.field-0 form.block c.deref.result.now form.is
    c.deref.ensures.value) (c.after_statements.ensures names)

pub after_statement-returns-in-Some : goal.after_statement-returns-in-Some
after_statement-returns-in-Some t c names =
    let form = c.in-If in
    let branch = c.deref-in-Some.result.now in
    let first = count_of-if names c.args.statement.now form.index form.place form.condition form.first form.second
    c.deref-in-If.result.now form.is c.deref-in-If.ensures.value in
    let second : count_of_else (maybe_statements names form.second) ≡ statement_count (statements names branch) =
    rw (c.in-Some.is, c.deref-in-Some.ensures.value) in
    let same : c.in_ok-next-in-If.next + statement_count (statements names branch)
    ≡ c.args.index + count_of (statement names c.args.statement.now) =
    omega (arith, first, second, c.in_ok-next-in-If.ensures names) in
    subst (λ (last : ℕ). IfOk c.after_statements-in-Some.result (λ next. next ≡ last)) same
    (c.after_statements-in-Some.ensures names)

pub after_statement-returns-in-None : goal.after_statement-returns-in-None
after_statement-returns-in-None t c names =
    let form = c.in-If in
    let first = count_of-if names c.args.statement.now form.index form.place form.condition form.first form.second
    c.deref-in-If.result.now form.is c.deref-in-If.ensures.value in
    let second : count_of_else (maybe_statements names form.second) ≡ 0 = rw c.in-None.is in
    omega (arith, first, second, c.in_ok-next-in-If.ensures names)

pub after_statement-returns-in_ok-after-in-While : goal.after_statement-returns-in_ok-after-in-While
after_statement-returns-in_ok-after-in-While t c names =
    let form = c.in-While in
    let body = c.deref-in-While.result.now in
    let count = count_of-while names c.args.statement.now form.index form.place form.condition form.body body form.is
    c.deref-in-While.ensures.value in
    let same : c.in_ok-after-in-While.field-0 + statement_count (statements names body)
    ≡ c.args.index + count_of (statement names c.args.statement.now) =
    omega (arith, count, c.in_ok-after-in-While.ensures) in
    subst (λ (last : ℕ). IfOk c.after_statements-in-While.result (λ next. next ≡ last)) same
    (c.after_statements-in-While.ensures names)
