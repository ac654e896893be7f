use Rattle.abs_program.specs.Instructions.{effect_of, waits_of}
use Rattle.abs_tree.specs.SyntaxViews.{statement, tests}
use Rattle.contract_infer.proofs.SettledWalkLemmas.{settled_both}
use Rattle.contract_infer.proofs.settled.Walk.settle_named.Goals as goal

pub returns : goal.returns
returns c names =
    settled_both (effect_of (statement names c.args.stmt.now)) (waits_of (tests names c.guard_of.result.now))
    c.future_of.result (c.guard_of.ensures names) (c.future_of.ensures names) (c.settle_guard.ensures names)
    c.settle.ensures
