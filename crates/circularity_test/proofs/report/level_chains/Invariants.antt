use Rattle.abs_program.specs.NamedViews.{program_tree}
use Rattle.circularity_test.specs.Network.{IsNetwork}
use Rattle.circularity_test.specs.Reporting.{IsReported}
use Rattle.circularity_test.proofs.report.level_chains.Given as goal

-- the chains for the pairs so far are listed
abbrev pub invariant-loop-index : goal.invariant-loop-index
invariant-loop-index l = IsNetwork (program_tree l.program.checked.named) l.level.pairs l.network
    → IsReported (program_tree l.program.checked.named) l.level.pairs l.index l.marked.items l.report
