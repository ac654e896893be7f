use Rattle.step_rules.proofs.CauseLemmas.{ended_has_none, running_has_none_iff, ready_has_iff, awaiting_has_iff}
use Rattle.step_rules.proofs.laws.events_have_causes.Goals as goal

pub returns : goal.returns
returns c = record {
  ended = ended_has_none;
  running = running_has_none_iff;
  ready = ready_has_iff;
  awaiting = awaiting_has_iff;
}
