use Rattle.std.proofs.Common.{take}
use Rattle.saturation.specs.Handling.{UsePasses}
use Rattle.saturation.specs.RuleViews.{program_of, terms_of}
use Rattle.saturation.specs.Steps.{Adds, Each}
use Rattle.saturation.proofs.rules.Rules.pass_in_body.Given as goal

-- what rests on those so far was added
abbrev pub invariant-loop-found : goal.invariant-loop-found
invariant-loop-found l =
    Adds (Each (λ use_. UsePasses (program_of l.self) (terms_of l.self) l.self.depth l.kind l.body use_ l.atom) (take l.found-index l.found-items)) l.initial.derivation l.derivation
