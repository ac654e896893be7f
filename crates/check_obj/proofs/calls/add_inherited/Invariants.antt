use Rattle.abs_program.specs.NamedViews.{named_tree}
use Rattle.abs_program.specs.Supertypes.{is_below}
use Rattle.check_obj.proofs.PickedLemmas.{AddedSoFar}
use Rattle.check_obj.proofs.calls.add_inherited.Given as goal
use Rattle.check_obj.specs.Calls.{trees_of}

abbrev pub invariant-loop-at : goal.invariant-loop-at
invariant-loop-at l = AddedSoFar (is_below (named_tree l.program).declarations l.own)
    (named_tree l.program).declarations l.count l.at-items l.at-index (trees_of l.program.symbols l.fn.found.items)
    (trees_of l.program.symbols l.found.items)
