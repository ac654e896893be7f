use Rattle.check_obj.proofs.SeveralReportedLemmas.{ReportedSoFar}
use Rattle.check_obj.proofs.interfaces.names_of_several.Given as goal

abbrev pub invariant-loop-index : goal.invariant-loop-index
invariant-loop-index l = ReportedSoFar l.table l.known.entries l.several.keys l.index
