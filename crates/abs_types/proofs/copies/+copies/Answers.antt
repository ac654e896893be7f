use Rattle.abs_types.proofs.CopyLemmas.{copied_step}
use Rattle.abs_types.proofs.TermLemmas.{data_copied, unresolved_copied}
use Rattle.abs_types.proofs.copies.+copies.Goals as goal

pub copied-returns-in_ok-copied_all-in-Unresolved : goal.copied-returns-in_ok-copied_all-in-Unresolved
copied-returns-in_ok-copied_all-in-Unresolved t c = λ names.
    unresolved_copied names c.in-Unresolved.arguments c.in_ok-copied_all-in-Unresolved.field-0 c.in-Unresolved.is
    c.deref.ensures.value (c.in_ok-copied_all-in-Unresolved.ensures names)

pub copied-returns-in_ok-copied_all-in-Data : goal.copied-returns-in_ok-copied_all-in-Data
copied-returns-in_ok-copied_all-in-Data t c = λ names.
    data_copied names c.in-Data.arguments c.in_ok-copied_all-in-Data.field-0 c.in-Data.is
    c.deref-in-Data.ensures.value (c.in_ok-copied_all-in-Data.ensures names)

pub copied_all-loop-term-preserved : goal.copied_all-loop-term-preserved
copied_all-loop-term-preserved t c = λ names.
    copied_step c.term-item.result c.in_ok-copied.field-0 (c.loop-term.invariant names) c.loop-term-test.true
    c.term-item.is c.in_ok-push.ensures.items (c.in_ok-copied.ensures names)
