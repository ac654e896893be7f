use Rattle.abs_program.specs.NamedViews.{named_tree}
use Rattle.abs_types.proofs.ArgumentLemmas.{JoinedSoFar}
use Rattle.abs_types.proofs.joins.+joins.Given as goal

abbrev pub invariant-join_arguments-loop-index : goal.invariant-join_arguments-loop-index
invariant-join_arguments-loop-index l =
    JoinedSoFar (named_tree l.fn.program).declarations l.fn.program.symbols l.left l.right l.index l.found.items
