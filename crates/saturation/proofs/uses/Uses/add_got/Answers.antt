use Rattle.saturation.proofs.AddedLemmas.{added_both, ok_then}
use Rattle.saturation.proofs.uses.Uses.add_got.Goals as goal

pub returns-in_ok-add-in-Some : goal.returns-in_ok-add-in-Some
returns-in_ok-add-in-Some c =
    rw c.in-Some.is
    (ok_then c.add-in-Some.result (λ second. added_both c.in_ok-add-in-Some.ensures second) c.add-in-Some.ensures)
