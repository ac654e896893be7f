use Rattle.check_obj.proofs.AgreeLemmas.{AgreeSoFar}
use Rattle.check_obj.specs.MethodsMet.{entries_in}
use Rattle.check_obj.proofs.interfaces.agree_with.Given as goal

abbrev pub invariant-loop-name : goal.invariant-loop-name
invariant-loop-name l =
    AgreeSoFar l.table l.several.keys l.fn.met.entries (entries_in l.table l.interface) l.met.entries l.name-iterator
