use Rattle.std.proofs.Common.{◌+◌, take}
use Rattle.contract_terms.specs.declared.fact.Atom.{Atom}
use Rattle.saturation.specs.Initials.{FillsWith}
use Rattle.saturation.specs.RuleViews.{program_of, terms_of}
use Rattle.saturation.specs.Steps.{Adds, Each}
use Rattle.saturation.proofs.rules.Rules.begin_slot.Given as goal

-- the atoms so far fill the field
abbrev pub invariant-loop-atom : goal.invariant-loop-atom
invariant-loop-atom l = Adds (Each (λ (atom : Atom). FillsWith (program_of l.self) (terms_of l.self) l.class l.sign
    (l.params + l.index) atom) (take l.atom-index l.atom-items)) l.initial.derivation l.derivation
