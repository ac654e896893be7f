use Rattle.std.proofs.Common.{take}
use Rattle.saturation.specs.Rows.{PassesParam}
use Rattle.saturation.specs.RuleViews.{program_of, terms_of}
use Rattle.saturation.specs.Steps.{Adds, Each}
use Rattle.saturation.proofs.rules.Rules.pass_atoms.Given as goal

-- the atoms so far were passed
abbrev pub invariant-loop-atom : goal.invariant-loop-atom
invariant-loop-atom l =
    Adds (Each (λ atom known. PassesParam (program_of l.self) (terms_of l.self) l.callee l.param atom)
    (take l.atom-index l.atom-items)) l.initial.derivation l.derivation
