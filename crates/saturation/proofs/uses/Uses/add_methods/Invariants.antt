use Rattle.abs_program.specs.NamedViews.{program_tree}
use Rattle.saturation.proofs.AddedLemmas.{EachBefore}
use Rattle.saturation.proofs.uses.Uses.add_methods.Given as goal
use Rattle.saturation.specs.UsesAdded.{Added, MethodUses}

-- the uses by the members so far were added
abbrev pub invariant-loop-index : goal.invariant-loop-index
invariant-loop-index l =
    Added (EachBefore (MethodUses (program_tree l.program) l.class) l.methods l.index) l.initial.self l.self
