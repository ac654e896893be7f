use Rattle.std.proofs.Common.{refl}
use Rattle.saturation.proofs.StartLemmas.{starts_term, starts_no_term}
use Rattle.saturation.proofs.rules.Rules.start_term.Goals as goal

pub returns-in-Some : goal.returns-in-Some
returns-in-Some c = starts_term c.in-Some.ensures c.start_statement.ensures

pub returns-in-None : goal.returns-in-None
returns-in-None c = starts_no_term c.in-None.ensures refl
