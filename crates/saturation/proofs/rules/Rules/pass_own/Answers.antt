use Rattle.std.proofs.Common.{refl}
use Rattle.saturation.proofs.StatementLemmas.{passes_own, passes_own_nothing}
use Rattle.saturation.proofs.rules.Rules.pass_own.Goals as goal

pub returns-in-Method : goal.returns-in-Method
returns-in-Method c = passes_own c.in-Method.is c.called.ensures c.pass.ensures

pub returns-in-Main : goal.returns-in-Main
returns-in-Main c = passes_own_nothing c.in-Main.is refl
