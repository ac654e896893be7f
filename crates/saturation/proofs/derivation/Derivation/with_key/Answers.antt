use Rattle.std.proofs.Common.{refl}
use Rattle.saturation.proofs.derivation.Derivation.with_key.Goals as goal

pub returns-in-Ok : goal.returns-in-Ok
returns-in-Ok c = record {
  same = refl;
  limit = refl;
  went_on = λ going. going;
  only = c.in-Ok.ensures.only;
  all = λ going fact there. c.in-Ok.ensures.all fact there.0 there.1;
}
