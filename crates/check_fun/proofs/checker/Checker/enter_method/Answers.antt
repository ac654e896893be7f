use Rattle.std.proofs.Common.{refl}
use Rattle.check_fun.proofs.SlotLemmas.{knows_method}
use Rattle.check_fun.proofs.checker.Checker.enter_method.Goals as goal

pub returns-clause-knows : goal.returns-clause-knows
returns-clause-knows c = knows_method refl refl refl refl refl c.clear.ensures.items
