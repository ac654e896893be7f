use Rattle.std.proofs.Common.{take}
use Rattle.check_obj.proofs.AgreedLemmas.{AgreedSoFar}
use Rattle.check_obj.proofs.interfaces.agrees.Given as goal

abbrev pub invariant-loop-other : goal.invariant-loop-other
invariant-loop-other l = AgreedSoFar l.table l.several.keys l.met.entries (take l.other-index l.other-items)
