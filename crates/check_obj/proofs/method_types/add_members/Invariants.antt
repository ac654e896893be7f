use Rattle.check_obj.proofs.GrownRowLemmas.{methods_before, GrownRow}
use Rattle.check_obj.proofs.method_types.add_members.Given as goal

abbrev pub invariant-loop-member : goal.invariant-loop-member
invariant-loop-member l =
    GrownRow l.fn.checker l.checker (methods_before l.fn.checker l.members l.member-index) l.fn.row.types.entries
    l.row.types.entries
