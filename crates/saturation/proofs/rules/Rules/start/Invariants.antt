use Rattle.std.proofs.Common.{take}
use Rattle.saturation.proofs.MakeLemmas.{EachMade}
use Rattle.saturation.specs.Handling.{BodyMakes, BodyStarts}
use Rattle.saturation.specs.MakeSteps.{Makes}
use Rattle.saturation.specs.RuleViews.{program_of, terms_of}
use Rattle.saturation.specs.Steps.{Each}
use Rattle.saturation.proofs.rules.Rules.start.Given as goal

-- what those so far ask for was added
abbrev pub invariant-loop-body : goal.invariant-loop-body
invariant-loop-body l = Makes (program_of l.self) (terms_of l.self) l.self.depth
    (Each (λ own. BodyStarts (program_of l.self) (terms_of l.self) l.self.depth l.kind own) (take l.body-index l.body-items))
    (EachMade (λ own. BodyMakes (program_of l.self) (terms_of l.self) l.self.depth l.kind own) (take l.body-index l.body-items))
    l.initial.made.keys l.made.keys l.initial.derivation l.derivation
