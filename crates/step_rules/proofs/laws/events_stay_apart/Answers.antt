use Rattle.step_rules.proofs.ApartLemmas.{input_apart, event_apart}
use Rattle.step_rules.proofs.laws.events_stay_apart.Goals as goal

pub returns : goal.returns
returns c = record { input = input_apart; event = event_apart }
