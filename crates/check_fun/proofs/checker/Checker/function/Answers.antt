use Rattle.std.proofs.lemmas.Result.{on_ok_weaker}
use Rattle.abs_types.proofs.KeepLemmas.{keeps_transitive}
use Rattle.check_fun.specs.Contexts.{Stays}
use Rattle.check_fun.proofs.checker.Checker.function.Goals as goal

pub returns-clause-keeps : goal.returns-clause-keeps
returns-clause-keeps c =
    on_ok_weaker c.asked_value.result
    (λ (stays : Stays c.enter_value.new.self c.asked_value.new.self). keeps_transitive c.in_ok-enter_value.ensures.keeps stays.keeps)
    c.asked_value.ensures.stays
