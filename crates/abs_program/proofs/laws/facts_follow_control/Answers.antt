use Rattle.abs_program.proofs.FlowLemmas.{facts_follow, facts_start, facts_at_points}
use Rattle.abs_program.proofs.laws.facts_follow_control.Goals as goal

pub returns : goal.returns
returns c = record { follow = facts_follow; starts = facts_start; count = facts_at_points }
