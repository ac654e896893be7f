use Rattle.std.proofs.Common.{arith}
use Rattle.abs_values.specs.ValueViews.{value_tree}
use Rattle.step_rules.proofs.RulePlanLemmas.{leave_inner, leave_last}
use Rattle.step_rules.specs.Plans.{plan_of_task}
use Rattle.step_rules.proofs.rules.give.Goals as goal

pub returns-then-frames-gt1 : goal.returns-then-frames-gt1
returns-then-frames-gt1 c = λ names config at frames. rw (c.of.ensures, c.in-Some.is)
    (leave_inner names config at.index at.task at.frame at.others c.in-Some.value (omega arith))

pub returns-else-frames-gt1 : goal.returns-else-frames-gt1
unfolding plan_of_task
returns-else-frames-gt1 c = λ names config at frames. rw (c.of-else-frames-gt1.ensures, c.in-Some.is)
    (leave_last config at.index at.task at.frame at.others (value_tree c.in-Some.value) (omega arith))
