use Rattle.std.proofs.Common.{◌≡◌, [], ◌∷◌, rules, arith, ap, sym, ◌∙◌}
use Rattle.std.proofs.lemmas.List.{append-nil}
use Rattle.std.proofs.lemmas.Result.{IfOk-weaker}
use Rattle.abs_program.proofs.CountLemmas.{statements_add}
use Rattle.abs_program.proofs.MakerLemmas.{made_alone, made_block, made_body, made_if, made_next, made_no_other, made_nothing, made_other, made_while, may_enter, may_make_body, may_make_fewer, may_make_first, may_make_last, may_make_next}
use Rattle.abs_tree.proofs.StatementLemmas.{block_tree, holds_none, if_tree, size_within, while_tree}
use Rattle.abs_program.specs.MadeInstructions.{loop_sizes}
use Rattle.abs_tree.specs.SyntaxSizes.{count_of, statement_count}
use Rattle.abs_tree.specs.SyntaxViews.{statement, statements}
use Rattle.abs_tree.specs.declared.syntax.statement.Stmt.{the_lemmas}
use Rattle.abs_program.proofs.tables.instructions.Maker.+made.Goals as goal
use Rattle.list_facts.proofs.BackwardLemmas.{one_back, all_back}

pub add_body-enter_loop-own-requires : goal.add_body-enter_loop-own-requires
add_body-enter_loop-own-requires t c = may_enter (statements c.requires.0 c.args.body.now) c.requires.1

pub add_body-add_statements-requires : goal.add_body-add_statements-requires
add_body-add_statements-requires t c =
    let names = c.requires.0 in (
      search (rules, the_lemmas),
      (names, may_make_body (statements names c.args.body.now) c.requires.1 c.enter_loop-own.ensures),
    )

pub add_body-returns : goal.add_body-returns
add_body-returns t c = λ names.
    made_body (statements c.requires.0 c.args.body.now) c.requires.1 c.enter_loop-own.ensures
    (c.in_ok-when_true.ensures c.requires.0) (c.in_ok-when_true.ensures names)

pub add_branches-add_other-requires : goal.add_branches-add_other-requires
add_branches-add_other-requires t c =
    let names = c.requires.0 in
    let first = statements names c.args.first.now in
    (search (rules, the_lemmas), (names, may_make_last (statement_count first) (loop_sizes first) c.requires.1))

pub add_branches-add_statements-requires : goal.add_branches-add_statements-requires
add_branches-add_statements-requires t c =
    let names = c.requires.0 in (
      search (rules, the_lemmas),
      (names, may_make_first c.requires.1 (c.in_ok-when_false.ensures names).makes),
    )

pub add_other-returns-in-Some : goal.add_other-returns-in-Some
add_other-returns-in-Some t c = λ names.
    rw (c.in-Some.is, ← c.deref.ensures.value)
    (IfOk-weaker c.add_statements.result _ _ (λ first made. made_other made) (c.add_statements.ensures names))

pub add_other-returns-in-None : goal.add_other-returns-in-None
add_other-returns-in-None t c = λ names. rw c.in-None.is (made_no_other names c.args.after c.args.self.now)

pub add_statement-add_statements-requires : goal.add_statement-add_statements-requires
add_statement-add_statements-requires t c =
    let names = c.requires.0 in
    let form = c.in-Block in
    let tree = block_tree names c.args.stmt.now form.field-0 form.block c.deref.result.now form.is
    c.deref.ensures.value in
    (search (rules, the_lemmas), (names, rw tree at c.requires.1))

pub add_statement-returns-in-Block : goal.add_statement-returns-in-Block
add_statement-returns-in-Block t c = λ names.
    let form = c.in-Block in
    rw (block_tree names c.args.stmt.now form.field-0 form.block c.deref.result.now form.is c.deref.ensures.value)
    (IfOk-weaker c.add_statements.result _ _ (λ first made. made_block made) (c.add_statements.ensures names))

pub add_statement-add_branches-requires : goal.add_statement-add_branches-requires
add_statement-add_branches-requires t c =
    let names = c.requires.0 in
    let form = c.in-If in
    let tree = if_tree names c.args.stmt.now form.index form.place form.condition form.first form.second
    c.deref-in-If.result.now form.is c.deref-in-If.ensures.value in
    (search (rules, the_lemmas), (names, may_make_fewer (omega arith) (rw tree at c.requires.1)))

pub add_statement-push-requires : goal.add_statement-push-requires
add_statement-push-requires t c =
    let names = c.requires.0 in
    let form = c.in-If in
    let tree = if_tree names c.args.stmt.now form.index form.place form.condition form.first form.second
    c.deref-in-If.result.now form.is c.deref-in-If.ensures.value in
    omega (arith, ap count_of tree, c.requires.1.room, (c.in_ok-goes-in-If.ensures names).makes.next_is)

pub add_statement-returns-in_ok-goes-in-If : goal.add_statement-returns-in_ok-goes-in-If
add_statement-returns-in_ok-goes-in-If t c = λ names.
    let form = c.in-If in
    let tree = if_tree names c.args.stmt.now form.index form.place form.condition form.first form.second
    c.deref-in-If.result.now form.is c.deref-in-If.ensures.value in
    IfOk-weaker c.push.result _ _ (λ index one. made_if tree (c.in_ok-goes-in-If.ensures names) one)
    (c.push.ensures names)

pub add_statement-add_body-requires : goal.add_statement-add_body-requires
add_statement-add_body-requires t c =
    let names = c.requires.0 in
    let form = c.in-While in
    let tree = while_tree names c.args.stmt.now form.index form.place form.condition form.body
    c.deref-in-While.result.now form.is c.deref-in-While.ensures.value in
    (search (rules, the_lemmas), (names, rw tree at c.requires.1))

pub add_statement-push-requires-in-While : goal.add_statement-push-requires-in-While
add_statement-push-requires-in-While t c =
    let names = c.requires.0 in
    let form = c.in-While in
    let tree = while_tree names c.args.stmt.now form.index form.place form.condition form.body
    c.deref-in-While.result.now form.is c.deref-in-While.ensures.value in
    omega (arith, ap count_of tree, c.requires.1.room, (c.in_ok-goes-in-While.ensures names).makes.next_is)

pub add_statement-returns-in_ok-goes-in-While : goal.add_statement-returns-in_ok-goes-in-While
add_statement-returns-in_ok-goes-in-While t c = λ names.
    let form = c.in-While in
    let tree = while_tree names c.args.stmt.now form.index form.place form.condition form.body
    c.deref-in-While.result.now form.is c.deref-in-While.ensures.value in
    IfOk-weaker c.push-in-While.result _ _ (λ index one. made_while tree (c.in_ok-goes-in-While.ensures names) one)
    (c.push-in-While.ensures names)

pub add_statement-returns-in_default : goal.add_statement-returns-in_default
add_statement-returns-in_default t c = λ names.
    let plain = holds_none names c.args.stmt.now c.in_default.not-Block c.in_default.not-If c.in_default.not-While in
    IfOk-weaker c.push-in_default.result _ _ (λ first one. made_alone (statement names c.args.stmt.now) plain one)
    (c.push-in_default.ensures names)

pub add_statements-loop-stmt-init : goal.add_statements-loop-stmt-init
add_statements-loop-stmt-init t c =
    let rest_is : c.into_iter-stmt-iterator.result.iter.rest.now ≡ c.args.stmts.now = cc in
    (tt, tt, ([], sym (append-nil _ ∙ rest_is), λ names. made_nothing names c.args.after c.args.self.now))

pub add_statements-add_statement-requires : goal.add_statements-add_statement-requires
add_statements-add_statement-requires t c =
    let names = c.requires.0 in
    let stmt = c.in-Some.stmt.now in
    let done = c.loop-stmt.invariant.2.0 in
    let others = c.next.new.self.iter.rest.now in
    let is = one_back others stmt done c.loop-stmt.invariant.2.1 c.in-Some.ensures.steps in
    let within = size_within c.args.stmts.now others stmt done is in (
      omega (arith, within),
      (
        names,
        may_make_next c.args.stmts.now others stmt done (statements_add names) is c.requires.1
            (c.loop-stmt.invariant.2.2 names).makes,
      ),
    )

pub add_statements-loop-stmt-preserved : goal.add_statements-loop-stmt-preserved
add_statements-loop-stmt-preserved t c =
    let stmt = c.in-Some.stmt.now in
    let done = c.loop-stmt.invariant.2.0 in
    let others = c.next.new.self.iter.rest.now in
    let is = one_back others stmt done c.loop-stmt.invariant.2.1 c.in-Some.ensures.steps in (
      tt,
      tt,
      (
        stmt ∷ done,
        is,
        λ names.
            made_next (c.loop-stmt.invariant.2.2 names) (c.in_ok-first.ensures names),
      ),
    )

pub add_statements-returns : goal.add_statements-returns
add_statements-returns t c = λ names.
    let rest = c.loop-stmt.stmt-iterator.iter.rest.now in
    rw (all_back rest c.loop-stmt.invariant.2.1 c.in-None.ensures.steps.0) (c.loop-stmt.invariant.2.2 names)
