use Rattle.std.proofs.Common.{refl}
use Rattle.saturation.proofs.HandlingLemmas.{passes_use, passes_no_use}
use Rattle.saturation.proofs.rules.Rules.pass_to_use.Goals as goal

pub returns-in-Some : goal.returns-in-Some
returns-in-Some c = passes_use c.in-Some.ensures.found c.pass_to.ensures

pub returns-in_default : goal.returns-in_default
returns-in_default c = passes_no_use c.in_default.ensures.none refl
