use Rattle.std.proofs.Common.{map}
use Rattle.contract_terms.specs.Views.{reads_tree}
use Rattle.saturation.proofs.AddedLemmas.{EachBefore}
use Rattle.saturation.proofs.uses.Uses.add_initials.Given as goal
use Rattle.saturation.specs.UsesAdded.{Added, InitialUse}

-- what the initial values so far read was added
abbrev pub invariant-loop-index : goal.invariant-loop-index
invariant-loop-index l =
    Added (EachBefore (InitialUse l.class) (map reads_tree l.initials) l.index) l.initial.self l.self
