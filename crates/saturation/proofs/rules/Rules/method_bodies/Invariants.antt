use Rattle.saturation.specs.RuleViews.{program_of}
use Rattle.saturation.proofs.KindBodyLemmas.{MethodFor}
use Rattle.saturation.proofs.EachLemmas.{FoundSoFar}
use Rattle.saturation.proofs.rules.Rules.method_bodies.Given as goal

-- the methods of the classes so far were found
abbrev pub invariant-loop-class : goal.invariant-loop-class
invariant-loop-class l = FoundSoFar (MethodFor (program_of l.self) l.method) l.initial.bodies.items l.classes
    l.class-index l.bodies.items l.initial.derivation l.derivation
