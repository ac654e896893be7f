use Rattle.check_obj.proofs.TakingLemmas.{FitFrom}
use Rattle.check_obj.proofs.calls.all_fit.Given as goal

abbrev pub invariant-loop-index : goal.invariant-loop-index
invariant-loop-index l = FitFrom l.checker l.given l.takes l.index
