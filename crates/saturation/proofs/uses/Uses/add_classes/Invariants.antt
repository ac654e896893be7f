use Rattle.abs_program.specs.NamedViews.{program_tree}
use Rattle.saturation.proofs.AddedLemmas.{EachBefore}
use Rattle.saturation.proofs.uses.Uses.add_classes.Given as goal
use Rattle.saturation.specs.UsesAdded.{Added, ClassUses}

-- the uses by the declarations so far were added
abbrev pub invariant-loop-index : goal.invariant-loop-index
invariant-loop-index l =
    Added (EachBefore (ClassUses (program_tree l.program)) l.classes l.index) l.initial.self l.self
