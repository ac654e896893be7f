use Rattle.std.proofs.Common.{arith}
use Rattle.abs_program.proofs.CountLemmas.{counted_step, counted_done, next_fits, decls_add}
use Rattle.abs_program.proofs.tables.loop_sizes.count_declarations.Goals as goal

pub count_declaration-requires : goal.count_declaration-requires
count_declaration-requires c =
    let names = c.requires.0 in
    let fits = next_fits c.declaration-item.result (decls_add names) (c.loop-declaration.invariant names)
    c.loop-declaration-test.true c.declaration-item.is in
    (names, omega (arith, fits))

pub overflow_add-count : goal.overflow_add-count
overflow_add-count c =
    let names = c.requires.0 in
    let fits = next_fits c.declaration-item.result (decls_add names) (c.loop-declaration.invariant names)
    c.loop-declaration-test.true c.declaration-item.is in
    omega (arith, fits, (c.in_ok-count.ensures names).count_is)

pub loop-declaration-preserved : goal.loop-declaration-preserved
loop-declaration-preserved c = λ names.
    counted_step c.declaration-item.result (decls_add names) (c.loop-declaration.invariant names)
    c.loop-declaration-test.true c.declaration-item.is (c.in_ok-count.ensures names)

pub returns : goal.returns
returns c = λ names. counted_done (decls_add names) (c.loop-declaration.invariant names) c.loop-declaration-test.false
