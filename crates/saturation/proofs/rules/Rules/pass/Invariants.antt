use Rattle.std.proofs.Common.{take}
use Rattle.saturation.specs.RuleViews.{program_of, terms_of}
use Rattle.saturation.specs.Steps.{Adds, Each}
use Rattle.saturation.proofs.PassLemmas.{BodyPasses}
use Rattle.saturation.proofs.rules.Rules.pass.Given as goal

-- the atom was passed to the bodies so far
abbrev pub invariant-loop-body : goal.invariant-loop-body
invariant-loop-body l = Adds (Each (BodyPasses (program_of l.self) (terms_of l.self) l.callee l.param l.atom)
    (take l.body-index l.body-items)) l.initial.derivation l.derivation
