use Rattle.std.proofs.Common.{sym, ◌∙◌}
use Rattle.check_obj.proofs.PickedLemmas.{added_other, added_picked}
use Rattle.check_obj.proofs.calls.add_inherited.Goals as goal
use Rattle.check_obj.proofs.calls.add_inherited.Goals.{then-is_below+in_ok-add_at, else-is_below}

pub loop-at-preserved : goal.loop-at-preserved
loop-at-preserved c = elim c.if-is_below.branch [
  | then-is_below+in_ok-add_at w ↦
      rw w.found-is
      (added_picked (record { interface = 0; index = 0 }) c.loop-at.invariant c.loop-at-test.true
      (sym c.is_below.ensures ∙ w.if-is_below.true) w.in_ok-add_at.ensures)
  | else-is_below w ↦
      rw w.found-is
      (added_other (record { interface = 0; index = 0 }) c.loop-at.invariant c.loop-at-test.true
      (sym c.is_below.ensures ∙ w.if-is_below.false))
]
