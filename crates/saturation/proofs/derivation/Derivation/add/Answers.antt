use Rattle.std.proofs.Common.{⊎_elim, ◌≤◌, length, arith, refl, sym}
use Rattle.std.proofs.lemmas.Bool.{false≢true}
use Rattle.saturation.proofs.StepLemmas.{adds_ended, adds_fact, adds_known}
use Rattle.saturation.proofs.derivation.Derivation.add.Goals as goal

pub returns-in-Ok : goal.returns-in-Ok
returns-in-Ok c =
    let few : length c.args.self.now.facts ≤ c.args.self.now.limit =
    omega (arith, c.if-len-limit.false, c.len.ensures.count) in
    ⊎_elim (λ known. adds_known c.args.fact _ _ known.0 known.1 refl (λ going. (going.0, few)))
    (λ grown. adds_fact c.args.fact _ _ grown refl (λ going. (going.0, few))) c.in-Ok.ensures.added

pub returns-in-Err : goal.returns-in-Err
returns-in-Err c = adds_ended _ _ c.in-Err.ensures.err refl (λ going. false≢true (sym going.0))
