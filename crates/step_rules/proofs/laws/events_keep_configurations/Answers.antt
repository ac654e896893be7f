use Rattle.step_rules.proofs.FormedRuleLemmas.{event-formed}
use Rattle.step_rules.proofs.HouseLemmas.{event_keeps_houses}
use Rattle.step_rules.proofs.KeepLemmas.{event_keeps_program}
use Rattle.step_rules.proofs.ReachLemmas.{reachable_keeps}
use Rattle.step_rules.proofs.laws.events_keep_configurations.Goals as goal

pub returns : goal.returns
returns c = record {
  formed = event-formed;
  of_program = event_keeps_program;
  housed = event_keeps_houses;
  reachable = reachable_keeps;
}
