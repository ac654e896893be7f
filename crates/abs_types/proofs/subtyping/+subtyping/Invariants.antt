use Rattle.abs_program.specs.NamedViews.{named_tree}
use Rattle.abs_types.proofs.FittingLemmas.{FittingSoFar}
use Rattle.abs_types.proofs.subtyping.+subtyping.Given as goal

abbrev pub invariant-fitting_count-loop-index : goal.invariant-fitting_count-loop-index
invariant-fitting_count-loop-index l =
    FittingSoFar (named_tree l.fn.program).declarations l.fn.program.symbols l.terms l.others l.index
