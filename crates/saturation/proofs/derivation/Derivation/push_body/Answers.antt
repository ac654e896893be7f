use Rattle.std.proofs.Common.{inl, subst, Contains}
use Rattle.saturation.proofs.StepLemmas.{finds_ended}
use Rattle.saturation.proofs.derivation.Derivation.push_body.Goals as goal

pub returns-in-Err : goal.returns-in-Err
returns-in-Err c =
    finds_ended c.fail.ensures.adds c.fail.ensures.ended c.fail.ensures.same
    (λ one there. inl (subst (λ items. Contains items one) c.in-Err.ensures.items there))
