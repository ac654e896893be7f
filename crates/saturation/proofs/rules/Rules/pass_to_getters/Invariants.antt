use Rattle.std.proofs.Common.{take}
use Rattle.saturation.specs.Handling.{HolderPasses}
use Rattle.saturation.specs.RuleViews.{program_of, terms_of}
use Rattle.saturation.specs.Steps.{Adds, Each}
use Rattle.saturation.proofs.rules.Rules.pass_to_getters.Given as goal

-- what rests on those so far was added
abbrev pub invariant-loop-fact : goal.invariant-loop-fact
invariant-loop-fact l =
    Adds (Each (λ holds. HolderPasses (program_of l.self) (terms_of l.self) l.self.depth holds l.atom) (take l.fact-index l.fact-items)) l.initial.derivation l.derivation
