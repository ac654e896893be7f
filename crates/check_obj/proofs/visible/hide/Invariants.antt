use Rattle.check_obj.proofs.VisibleLemmas.{IsHiding}
use Rattle.check_obj.proofs.visible.hide.Given as goal

abbrev pub invariant-loop-slot : goal.invariant-loop-slot
invariant-loop-slot l = IsHiding l.fn.checker l.checker l.fn.shown.items l.shown.items

abbrev pub decreases-loop-slot : goal.decreases-loop-slot
decreases-loop-slot l = goal.left-loop-slot l
