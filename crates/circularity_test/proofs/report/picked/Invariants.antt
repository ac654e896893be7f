use Rattle.std.proofs.Common.{List}
use Rattle.circularity_test.proofs.PickingLemmas.{PickedSoFar}
use Rattle.circularity_test.proofs.report.picked.Given as goal
use Rattle.circularity_test.specs.Routes.{Picks}
use Rattle.contract_terms.specs.declared.pair.Pair.{Pair}

-- the pairs at the first indices were found
abbrev pub invariant-loop-index : goal.invariant-loop-index
invariant-loop-index l = (chain : List Pair) → Picks l.pairs l.indices chain
    → PickedSoFar l.pairs l.indices l.index-index l.found.items chain
