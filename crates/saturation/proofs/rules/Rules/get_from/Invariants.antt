use Rattle.std.proofs.Common.{take}
use Rattle.saturation.specs.Rows.{Resolves}
use Rattle.saturation.specs.RuleViews.{instruction_of, program_of, term_of}
use Rattle.saturation.specs.Steps.{Adds, Each}
use Rattle.saturation.proofs.rules.Rules.get_from.Given as goal

-- what the futures so far give was taken
abbrev pub invariant-loop-future : goal.invariant-loop-future
invariant-loop-future l = Adds (Each (λ atom. Resolves (program_of l.self) l.kind
    (instruction_of l.self l.instruction) (term_of l.self l.term) atom) (take l.future-index l.future-items))
    l.initial.derivation l.derivation
