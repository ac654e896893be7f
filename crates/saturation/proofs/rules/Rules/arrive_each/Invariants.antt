use Rattle.std.proofs.Common.{take}
use Rattle.saturation.specs.Rows.{Arrives}
use Rattle.saturation.specs.RuleViews.{instruction_of, program_of, term_of, terms_of}
use Rattle.saturation.specs.Steps.{Adds, Each}
use Rattle.saturation.proofs.rules.Rules.arrive_each.Given as goal

-- what rests on the atoms so far was added
abbrev pub invariant-loop-atom : goal.invariant-loop-atom
invariant-loop-atom l = Adds (Each (λ atom. Arrives (program_of l.self) (terms_of l.self) l.self.depth l.kind
    (instruction_of l.self l.instruction) (term_of l.self l.term) l.expr atom) (take l.atom-index l.atom-items))
    l.initial.derivation l.derivation
