use Rattle.std.proofs.Common.{◌+◌, take}
use Rattle.saturation.specs.Initials.{FillsWith}
use Rattle.saturation.specs.RuleViews.{program_of, terms_of}
use Rattle.saturation.specs.Steps.{Adds, Each}
use Rattle.saturation.specs.declared.uses.Use.{Use}
use Rattle.saturation.proofs.rules.Rules.begin_class_from.Given as goal

-- the uses so far give the atom to their fields
abbrev pub invariant-loop-found : goal.invariant-loop-found
invariant-loop-found l = Adds (Each (λ (use_ : Use). FillsWith (program_of l.self) (terms_of l.self) l.class l.sign
    (l.params + use_.term) l.atom) (take l.found-index l.found-items)) l.initial.derivation l.derivation
