use Rattle.std.proofs.Common.{take}
use Rattle.saturation.specs.Handling.{BodyPasses}
use Rattle.saturation.specs.RuleViews.{program_of, terms_of}
use Rattle.saturation.specs.Steps.{Adds, Each}
use Rattle.saturation.proofs.rules.Rules.pass_in.Given as goal

-- what rests on those so far was added
abbrev pub invariant-loop-body : goal.invariant-loop-body
invariant-loop-body l =
    Adds (Each (λ own. BodyPasses (program_of l.self) (terms_of l.self) l.self.depth l.kind own l.location l.atom) (take l.body-index l.body-items)) l.initial.derivation l.derivation
