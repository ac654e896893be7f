use Rattle.saturation.specs.RuleViews.{program_of, term_of, terms_of}
use Rattle.saturation.specs.Steps.{Adds}
use Rattle.saturation.proofs.EachLemmas.{UpTo}
use Rattle.saturation.proofs.PassLemmas.{ArgumentAt}
use Rattle.saturation.proofs.rules.Rules.pass_arguments.Given as goal

-- the arguments so far were passed
abbrev pub invariant-loop-index : goal.invariant-loop-index
invariant-loop-index l = Adds (UpTo 1 (ArgumentAt (program_of l.self) (terms_of l.self) l.kind (term_of l.self l.term)
    l.callee) l.index) l.initial.derivation l.derivation
