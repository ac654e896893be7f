use Rattle.std.proofs.Common.{eq-eqb}
use Rattle.check_obj.proofs.PickedLemmas.{added_other, added_picked}
use Rattle.check_obj.proofs.calls.add_own.Goals as goal
use Rattle.check_obj.proofs.calls.add_own.Goals.{then-at-own+in_ok-add_at, else-at-own}
use Rattle.std.proofs.lemmas.Bool.{ne_eqb}

pub loop-at-preserved : goal.loop-at-preserved
loop-at-preserved c = elim c.if-at-own.branch [
  | then-at-own+in_ok-add_at w ↦
      rw w.found-is
      (added_picked (record { interface = 0; index = 0 }) c.loop-at.invariant c.loop-at-test.true
      (eq-eqb _ _ w.if-at-own.true) w.in_ok-add_at.ensures)
  | else-at-own w ↦
      rw w.found-is
      (added_other (record { interface = 0; index = 0 }) c.loop-at.invariant c.loop-at-test.true
      (ne_eqb _ _ w.if-at-own.false))
]
