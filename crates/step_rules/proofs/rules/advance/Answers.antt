use Rattle.step_rules.specs.Plans.{plan_of_task}
use Rattle.step_rules.proofs.rules.advance.Goals as goal

pub returns : goal.returns
unfolding plan_of_task
returns c = λ names config at. rw (c.of.ensures, c.onward.ensures)
