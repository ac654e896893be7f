use Rattle.std.proofs.Common.{take}
use Rattle.check_obj.proofs.MethodTypeLemmas.{TypedSoFar}
use Rattle.check_obj.proofs.method_types.method_type.Given as goal

abbrev pub invariant-loop-param : goal.invariant-loop-param
invariant-loop-param l = TypedSoFar l.fn.checker l.checker l.signature (take l.param-index l.param-items) l.found
