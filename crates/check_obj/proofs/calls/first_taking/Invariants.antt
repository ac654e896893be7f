use Rattle.check_obj.proofs.TakingLemmas.{TakingFrom}
use Rattle.check_obj.proofs.calls.first_taking.Given as goal

abbrev pub invariant-loop-method : goal.invariant-loop-method
invariant-loop-method l = TakingFrom l.fn.checker l.checker l.given l.methods l.method-index
