use Rattle.std.proofs.Common.{map}
use Rattle.abs_program.specs.NamedViews.{program_tree}
use Rattle.contract_terms.specs.Views.{term_tree}
use Rattle.saturation.proofs.AddedLemmas.{EachBefore}
use Rattle.saturation.proofs.uses.Uses.add_terms.Given as goal
use Rattle.saturation.specs.UsesAdded.{Added, TermUses}

-- the uses by the terms so far were added
abbrev pub invariant-loop-index : goal.invariant-loop-index
invariant-loop-index l =
    Added (EachBefore (TermUses (program_tree l.program) l.body) (map (term_tree l.program.symbols) l.terms) l.index)
    l.initial.self l.self
