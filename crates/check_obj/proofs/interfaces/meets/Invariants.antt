use Rattle.std.proofs.Common.{take}
use Rattle.abs_types.specs.TypeTables.{declarations_of}
use Rattle.check_obj.proofs.MeetLemmas.{MetSoFar}
use Rattle.check_obj.proofs.interfaces.meets.Given as goal

abbrev pub invariant-loop-above : goal.invariant-loop-above
invariant-loop-above l = MetSoFar (declarations_of l.table) l.class (take l.above-index l.above-items)
