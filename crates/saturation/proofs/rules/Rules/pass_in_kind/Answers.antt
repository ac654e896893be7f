use Rattle.std.proofs.Common.{refl}
use Rattle.saturation.proofs.HandlingLemmas.{passes_fact, passes_no_fact}
use Rattle.saturation.proofs.rules.Rules.pass_in_kind.Goals as goal

pub returns-in-Live : goal.returns-in-Live
returns-in-Live c = passes_fact c.in-Live.is c.pass_in.ensures

pub returns-in_default : goal.returns-in_default
returns-in_default c = passes_no_fact c.in_default.not-Live refl
