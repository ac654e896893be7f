-- The first facts were handled.
use Rattle.std.proofs.Common.{◌≡◌, ◌≤◌, ◌+◌, ◌-◌, length, take}
use Rattle.contract_terms.specs.ProgramTerms.{AreTermsOf}
use Rattle.saturation.proofs.WorkLemmas.{IsHandledUpTo}
use Rattle.saturation.specs.RuleViews.{program_of, terms_of}
use Rattle.saturation.proofs.rules.Rules.derive.Given as goal

abbrev pub invariant-loop-derivation : goal.invariant-loop-derivation
invariant-loop-derivation l =
    (l.position ≤ length l.derivation.facts)
    × (l.derivation.limit ≡ l.limit)
    × (AreTermsOf (program_of l.self) (terms_of l.self)
    → IsHandledUpTo (program_of l.self) (terms_of l.self) l.self.depth l.made.keys l.derivation
    (take l.position l.derivation.facts))

abbrev pub decreases-loop-derivation : goal.decreases-loop-derivation
decreases-loop-derivation l = l.limit + 1 - l.position
