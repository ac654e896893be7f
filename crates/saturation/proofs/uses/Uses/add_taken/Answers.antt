use Rattle.std.proofs.Common.{ℕ}
use Rattle.saturation.proofs.AddedLemmas.{added_by, ok_then}
use Rattle.saturation.proofs.uses.Uses.add_taken.Goals as goal
use Rattle.saturation.specs.UsesAdded.{Just}
use Rattle.saturation.specs.declared.uses.Location.TheVariants as location
use Rattle.saturation.specs.declared.uses.Part.TheVariants as part

pub returns-in-Get : goal.returns-in-Get
returns-in-Get c = rw c.in-Get.is c.add_got.ensures

pub returns-in-CallOwn : goal.returns-in-CallOwn
returns-in-CallOwn c =
    let claim = λ (number : ℕ).
    Just c.args.body (location.Answer number) (record { term = c.args.index; part = part.Target }) in
    rw c.in-CallOwn.is
    (ok_then c.add.result (λ added. added_by claim c.number-method.ensures.number added) c.add.ensures)
