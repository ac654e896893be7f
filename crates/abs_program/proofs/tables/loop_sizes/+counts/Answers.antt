use Rattle.std.proofs.Common.{rules, arith, ap}
use Rattle.abs_program.proofs.CountLemmas.{counts_both, counts_own, counts_loop}
use Rattle.abs_tree.proofs.StatementLemmas.{block_tree, if_tree, while_tree}
use Rattle.abs_tree.specs.SyntaxSizes.{count_of}
use Rattle.abs_tree.specs.declared.syntax.statement.Stmt.{the_lemmas}
use Rattle.abs_program.proofs.tables.loop_sizes.+counts.Goals as goal

pub count_statement-count_statements-requires : goal.count_statement-count_statements-requires
count_statement-count_statements-requires t c =
    let names = c.requires.0 in
    let form = c.in-Block in
    let tree = block_tree names c.args.stmt.now form.field-0 form.block c.deref.result.now form.is
    c.deref.ensures.value in
    (search (rules, the_lemmas), (names, omega (arith, ap count_of tree)))

pub count_statement-count_statements-requires-in-If : goal.count_statement-count_statements-requires-in-If
count_statement-count_statements-requires-in-If t c =
    let names = c.requires.0 in
    let form = c.in-If in
    let tree = if_tree names c.args.stmt.now form.index form.place form.condition form.first form.second
    c.deref-in-If.result.now form.is c.deref-in-If.ensures.value in
    (search (rules, the_lemmas), (names, omega (arith, ap count_of tree)))

pub count_statement-overflow_add-result : goal.count_statement-overflow_add-result
count_statement-overflow_add-result t c =
    let names = c.requires.0 in
    let form = c.in-If in
    let tree = if_tree names c.args.stmt.now form.index form.place form.condition form.first form.second
    c.deref-in-If.result.now form.is c.deref-in-If.ensures.value in
    omega (arith, ap count_of tree, (c.in_ok-count_statements-in-If.ensures names).count_is)

pub count_statement-count_other-requires : goal.count_statement-count_other-requires
count_statement-count_other-requires t c =
    let names = c.requires.0 in
    let form = c.in-If in
    let tree = if_tree names c.args.stmt.now form.index form.place form.condition form.first form.second
    c.deref-in-If.result.now form.is c.deref-in-If.ensures.value in
    (search (rules, the_lemmas), (names, omega (arith, ap count_of tree)))

pub count_statement-overflow_add-result-in-If : goal.count_statement-overflow_add-result-in-If
count_statement-overflow_add-result-in-If t c =
    let names = c.requires.0 in
    let form = c.in-If in
    let tree = if_tree names c.args.stmt.now form.index form.place form.condition form.first form.second
    c.deref-in-If.result.now form.is c.deref-in-If.ensures.value in
    omega (
      arith,
      ap count_of tree,
      (c.in_ok-count_statements-in-If.ensures names).count_is,
      (c.in_ok-count_other-in-If.ensures names).count_is,
    )

pub count_statement-count_statements-requires-in-While : goal.count_statement-count_statements-requires-in-While
count_statement-count_statements-requires-in-While t c =
    let names = c.requires.0 in
    let form = c.in-While in
    let tree = while_tree names c.args.stmt.now form.index form.place form.condition form.body
    c.deref-in-While.result.now form.is c.deref-in-While.ensures.value in
    (search (rules, the_lemmas), (names, omega (arith, ap count_of tree)))

pub count_statement-overflow_add-result-in-While : goal.count_statement-overflow_add-result-in-While
count_statement-overflow_add-result-in-While t c =
    let names = c.requires.0 in
    let form = c.in-While in
    let tree = while_tree names c.args.stmt.now form.index form.place form.condition form.body
    c.deref-in-While.result.now form.is c.deref-in-While.ensures.value in
    omega (arith, ap count_of tree, (c.in_ok-size-in-While.ensures names).count_is)

pub count_statement-returns-in-Block : goal.count_statement-returns-in-Block
count_statement-returns-in-Block t c = λ names.
    let form = c.in-Block in
    rw (block_tree names c.args.stmt.now form.field-0 form.block c.deref.result.now form.is c.deref.ensures.value)
    (c.count_statements.ensures names)

pub count_statement-returns-in_ok-count_other-in-If : goal.count_statement-returns-in_ok-count_other-in-If
count_statement-returns-in_ok-count_other-in-If t c = λ names.
    let form = c.in-If in
    rw (if_tree names c.args.stmt.now form.index form.place form.condition form.first form.second
    c.deref-in-If.result.now form.is c.deref-in-If.ensures.value)
    (counts_both (counts_own (c.in_ok-count_statements-in-If.ensures names)) (c.in_ok-count_other-in-If.ensures names))

pub count_statement-returns-in_ok-push-in-While : goal.count_statement-returns-in_ok-push-in-While
count_statement-returns-in_ok-push-in-While t c = λ names.
    let form = c.in-While in
    rw (while_tree names c.args.stmt.now form.index form.place form.condition form.body c.deref-in-While.result.now
    form.is c.deref-in-While.ensures.value)
    (counts_loop (c.in_ok-size-in-While.ensures names) c.in_ok-push-in-While.ensures.items)
