use Rattle.step_rules.specs.Plans.{plan_of_task}
use Rattle.step_rules.proofs.rules.print.Goals as goal

pub returns-in-Some-Text : goal.returns-in-Some-Text
unfolding plan_of_task
returns-in-Some-Text c = λ names config at.
    rw (c.of-plan.ensures, c.onward.ensures, c.in-Some-Text.is, c.in-Some-Text.field-0-is)
