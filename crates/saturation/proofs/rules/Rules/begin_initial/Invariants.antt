use Rattle.std.proofs.Common.{◌+◌, take}
use Rattle.saturation.specs.Initials.{FillsFromSlot}
use Rattle.saturation.specs.RuleViews.{program_of, terms_of}
use Rattle.saturation.specs.Steps.{Adds, Each}
use Rattle.saturation.proofs.rules.Rules.begin_initial.Given as goal

-- the slots so far fill the field
abbrev pub invariant-loop-slot : goal.invariant-loop-slot
invariant-loop-slot l = Adds (Each (FillsFromSlot (program_of l.self) (terms_of l.self) l.class l.sign
    (l.params + l.index)) (take l.slot-index l.slot-items)) l.initial.derivation l.derivation
