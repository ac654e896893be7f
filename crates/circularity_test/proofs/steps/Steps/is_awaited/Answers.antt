use Rattle.std.proofs.Common.{◌∙◌, sym, subst}
use Rattle.circularity_test.proofs.StepLemmas.{sign_found, sign_there}
use Rattle.circularity_test.specs.Steps.{Awaits, IsAwaited}
use Rattle.circularity_test.proofs.steps.Steps.is_awaited.Goals as goal

pub returns-in-Method : goal.returns-in-Method
returns-in-Method c =
    let signs = c.args.self.now.awaiting.now.keys in
    let sign = c.in-Method.sign in (
      (λ found. subst (IsAwaited (Awaits c.args.self.now)) (sym c.in-Method.is)
          (sign_there signs sign (sym c.contains.ensures ∙ found))),
      (λ awaited. c.contains.ensures
          ∙ sign_found signs sign (subst (IsAwaited (Awaits c.args.self.now)) c.in-Method.is awaited)),
    )
