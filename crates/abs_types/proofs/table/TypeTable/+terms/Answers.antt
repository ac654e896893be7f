use Rattle.abs_types.proofs.KeepLemmas.{among_kept, keeps_transitive}
use Rattle.abs_types.proofs.TermLemmas.{plain_data}
use Rattle.abs_types.proofs.TermTableLemmas.{applied_step}
use Rattle.abs_types.proofs.table.TypeTable.+terms.Goals as goal

pub of_term-returns-in_ok-value-in-Fut-clause-keeps : goal.of_term-returns-in_ok-value-in-Fut-clause-keeps
of_term-returns-in_ok-value-in-Fut-clause-keeps t c = keeps_transitive c.of_term.ensures.keeps c.future.ensures.keeps

pub of_term-returns-in-Unresolved-clause-found : goal.of_term-returns-in-Unresolved-clause-found
of_term-returns-in-Unresolved-clause-found t c =
    rw (plain_data c.args.self.now.program.now.symbols c.in-Unresolved.arguments c.in-Unresolved.is
    c.deref-in-Unresolved.ensures.value) c.of_data.ensures.found

pub of_data-returns-in_err-argument-clause-keeps : goal.of_data-returns-in_err-argument-clause-keeps
of_data-returns-in_err-argument-clause-keeps t c =
    keeps_transitive c.loop-term.invariant.keeps c.of_term.ensures.keeps

pub of_data-applied-requires-clause-head : goal.of_data-applied-requires-clause-head
of_data-applied-requires-clause-head t c = among_kept c.of_term.ensures.keeps c.loop-term.invariant.among

pub of_data-returns-in_err-found-2-clause-keeps : goal.of_data-returns-in_err-found-2-clause-keeps
of_data-returns-in_err-found-2-clause-keeps t c =
    keeps_transitive c.loop-term.invariant.keeps
    (keeps_transitive c.of_term.ensures.keeps c.applied.ensures.keeps)

pub of_data-loop-term-preserved : goal.of_data-loop-term-preserved
of_data-loop-term-preserved t c =
    applied_step c.term-item.result c.loop-term.invariant c.loop-term-test.true c.term-item.is
    c.in_ok-argument.ensures.found c.of_term.ensures.keeps c.in_ok-found-2.ensures.found c.applied.ensures.keeps
