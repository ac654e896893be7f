use Rattle.std.proofs.Common.{take}
use Rattle.check_obj.proofs.ClassLemmas.{MethodsSoFar}
use Rattle.check_obj.proofs.classes.methods.Given as goal

abbrev pub invariant-loop-member : goal.invariant-loop-member
invariant-loop-member l = MethodsSoFar l.fn.checker l.checker (take l.member-index l.members)
