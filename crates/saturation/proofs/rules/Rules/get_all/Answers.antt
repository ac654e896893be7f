use Rattle.std.proofs.Common.{refl}
use Rattle.saturation.proofs.StartLemmas.{gets_some, gets_none}
use Rattle.saturation.proofs.rules.Rules.get_all.Goals as goal

pub returns-in-Some : goal.returns-in-Some
returns-in-Some c = gets_some _ _ _ _ c.in-Some.is c.get_from.ensures

pub returns-in-None : goal.returns-in-None
returns-in-None c = gets_none _ _ _ _ c.in-None.is refl
