use Rattle.std.proofs.Common.{take}
use Rattle.saturation.specs.Handling.{KindFactPasses}
use Rattle.saturation.specs.RuleViews.{program_of, terms_of}
use Rattle.saturation.specs.Steps.{Adds, Each}
use Rattle.saturation.proofs.rules.Rules.pass_in_object.Given as goal

-- what rests on those so far was added
abbrev pub invariant-loop-fact : goal.invariant-loop-fact
invariant-loop-fact l =
    Adds (Each (λ live. KindFactPasses (program_of l.self) (terms_of l.self) l.self.depth live l.location l.atom) (take l.fact-index l.fact-items)) l.initial.derivation l.derivation
