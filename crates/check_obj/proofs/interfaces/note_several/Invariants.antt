use Rattle.check_obj.proofs.SeveralLemmas.{NotedSoFar}
use Rattle.check_obj.proofs.interfaces.note_several.Given as goal

abbrev pub invariant-loop-name : goal.invariant-loop-name
invariant-loop-name l =
    NotedSoFar l.table l.row.types.entries l.fn.known.entries l.fn.several.keys l.known.entries l.several.keys
    l.name-iterator
