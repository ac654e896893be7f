use Rattle.step_rules.proofs.MoverLemmas.{slots_are}
use Rattle.step_rules.specs.Moves.{names_of}
use Rattle.step_rules.specs.Plans.{plan_of_task}
use Rattle.step_rules.proofs.waits.wait.Goals as goal

pub returns-in-Ok-false : goal.returns-in-Ok-false
unfolding plan_of_task
returns-in-Ok-false c = λ runner point moves.
    let guard = rw c.in-Ok-false.field-0-test at c.in-Ok-false.ensures (names_of c.args.at) in
    rw (c.of.ensures, slots_are c.args.at runner point moves, ← guard)
