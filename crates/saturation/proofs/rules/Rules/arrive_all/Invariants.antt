use Rattle.saturation.proofs.EachLemmas.{UpTo}
use Rattle.saturation.specs.Handling.{ArrivesAt}
use Rattle.saturation.specs.RuleViews.{instruction_of, program_of, term_of, terms_of}
use Rattle.saturation.specs.Steps.{Adds}
use Rattle.saturation.proofs.rules.Rules.arrive_all.Given as goal

-- what rests on the atoms of the expressions so far was added
abbrev pub invariant-loop-expr : goal.invariant-loop-expr
invariant-loop-expr l = Adds (UpTo 0 (ArrivesAt (program_of l.self) (terms_of l.self) l.self.depth l.kind
    (instruction_of l.self l.instruction) (term_of l.self l.term)) l.expr) l.initial.derivation l.derivation
