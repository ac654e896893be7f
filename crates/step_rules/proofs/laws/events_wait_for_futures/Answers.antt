use Rattle.step_rules.proofs.WaitLemmas.{event_unless_waits}
use Rattle.step_rules.proofs.laws.events_wait_for_futures.Goals as goal

pub returns : goal.returns
returns c = event_unless_waits
