use Rattle.std.proofs.Common.{take}
use Rattle.check_obj.proofs.ClassLemmas.{FieldsSoFar}
use Rattle.check_obj.proofs.classes.fields.Given as goal

abbrev pub invariant-loop-member : goal.invariant-loop-member
invariant-loop-member l =
    FieldsSoFar l.fn.checker l.checker l.params (take l.member-index l.members) l.found.items
