use Rattle.abs_program.specs.Instructions.{effect_of, waits_of}
use Rattle.abs_tree.specs.SyntaxViews.{statement, tests}
use Rattle.contract_infer.proofs.SettledEffectLemmas.{named_slots-given}
use Rattle.contract_infer.proofs.SettledStepLemmas.{takes_both, takes_same}
use Rattle.contract_infer.proofs.settled.Walk.take_named.Goals as goal

pub returns : goal.returns
returns c names =
    takes_same
    (named_slots-given (effect_of (statement names c.args.stmt.now)) (waits_of (tests names c.guard_of.result.now))
    c.future_of.result (c.guard_of.ensures names) (c.future_of.ensures names))
    (takes_both (rw c.new-row.ensures.items at (c.take_guard.ensures names)) c.take.ensures)
