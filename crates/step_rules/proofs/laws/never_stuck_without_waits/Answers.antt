use Rattle.step_rules.proofs.ProgressLemmas.{never_stuck}
use Rattle.step_rules.proofs.laws.never_stuck_without_waits.Goals as goal

pub returns : goal.returns
returns c = never_stuck
