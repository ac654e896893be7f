use Rattle.saturation.proofs.StartLemmas.{starts_statement}
use Rattle.saturation.proofs.rules.Rules.start_statement.Goals as goal

pub returns : goal.returns
returns c = starts_statement _ _ _ _ _ _ c.start_effect.ensures c.arrive_all.ensures
