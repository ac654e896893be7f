use Rattle.std.proofs.Common.{refl}
use Rattle.saturation.proofs.HandlingLemmas.{passes_holder, passes_no_holder}
use Rattle.saturation.proofs.rules.Rules.pass_to_holder.Goals as goal

pub returns-in-Holds : goal.returns-in-Holds
returns-in-Holds c = passes_holder c.in-Holds.is c.pass_in_live.ensures

pub returns-in_default : goal.returns-in_default
returns-in_default c = passes_no_holder c.in_default.not-Holds refl
