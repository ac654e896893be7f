use Rattle.std.proofs.Common.{take}
use Rattle.saturation.proofs.MakeLemmas.{EachMade}
use Rattle.saturation.specs.Handling.{TermMakes, TermStarts}
use Rattle.saturation.specs.MakeSteps.{Makes}
use Rattle.saturation.specs.RuleViews.{program_of, term_of, terms_of}
use Rattle.saturation.specs.Steps.{Each}
use Rattle.saturation.proofs.rules.Rules.start_body.Given as goal

-- what those so far ask for was added
abbrev pub invariant-loop-term : goal.invariant-loop-term
invariant-loop-term l = Makes (program_of l.self) (terms_of l.self) l.self.depth
    (Each (λ one. TermStarts (program_of l.self) (terms_of l.self) l.self.depth l.kind (term_of l.self one)) (take l.term-index l.term-items))
    (EachMade (λ one. TermMakes (program_of l.self) (terms_of l.self) l.self.depth l.kind (term_of l.self one)) (take l.term-index l.term-items))
    l.initial.made.keys l.made.keys l.initial.derivation l.derivation
