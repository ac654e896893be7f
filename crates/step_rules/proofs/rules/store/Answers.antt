use Rattle.step_rules.specs.Plans.{plan_of_task}
use Rattle.step_rules.proofs.rules.store.Goals as goal

pub returns-in-Some : goal.returns-in-Some
unfolding plan_of_task
returns-in-Some c = λ names config at. rw (c.of.ensures, c.in-Some.is)
