use Rattle.std.proofs.Common.{take}
use Rattle.saturation.specs.Rows.{Answers}
use Rattle.saturation.specs.RuleViews.{instruction_of, program_of, term_of}
use Rattle.saturation.specs.Steps.{Adds, Each}
use Rattle.saturation.proofs.rules.Rules.take_results.Given as goal

-- the results so far answer the statement
abbrev pub invariant-loop-result : goal.invariant-loop-result
invariant-loop-result l = Adds (Each (λ atom known. Answers (program_of l.self) l.kind
    (instruction_of l.self l.instruction) (term_of l.self l.term) atom) (take l.result-index l.result-items))
    l.initial.derivation l.derivation
