use Rattle.std.proofs.Common.{refl}
use Rattle.saturation.proofs.StatementLemmas.{resolves_future, resolves_nothing}
use Rattle.saturation.proofs.rules.Rules.resolve.Goals as goal

pub returns-in-Future : goal.returns-in-Future
returns-in-Future c = resolves_future c.in-Future.is c.take_results.ensures

pub returns-in-Object : goal.returns-in-Object
returns-in-Object c = resolves_nothing c.in-Object.is refl
