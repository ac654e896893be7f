use Rattle.std.proofs.Common.{refl}
use Rattle.saturation.proofs.StatementLemmas.{calls_method, calls_nothing}
use Rattle.saturation.proofs.rules.Rules.call_own.Goals as goal

pub returns-in-Method : goal.returns-in-Method
returns-in-Method c =
    calls_method c.in-Method.is c.called-callee.ensures c.copied.ensures c.add.ensures c.take_results.ensures

pub returns-in-Main : goal.returns-in-Main
returns-in-Main c = calls_nothing c.in-Main.is refl
