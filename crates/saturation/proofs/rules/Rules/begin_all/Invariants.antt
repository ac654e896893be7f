use Rattle.std.proofs.Common.{map}
use Rattle.contract_terms.specs.Views.{reads_tree}
use Rattle.saturation.specs.RuleViews.{program_of, terms_of}
use Rattle.saturation.specs.Steps.{Adds}
use Rattle.saturation.proofs.EachLemmas.{UpTo}
use Rattle.saturation.proofs.ObjectLemmas.{FillsFromInitial}
use Rattle.saturation.proofs.rules.Rules.begin_all.Given as goal

-- the initial values so far are gone through
abbrev pub invariant-loop-index : goal.invariant-loop-index
invariant-loop-index l = Adds (UpTo 0 (FillsFromInitial (program_of l.self) (terms_of l.self) l.class l.sign l.params
    (map reads_tree l.terms.initials.items)) l.index) l.initial.derivation l.derivation
