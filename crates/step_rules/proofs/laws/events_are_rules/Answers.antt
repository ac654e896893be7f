use Rattle.step_rules.proofs.RuleLemmas.{rule_of}
use Rattle.step_rules.proofs.laws.events_are_rules.Goals as goal

pub returns : goal.returns
returns c = rule_of
