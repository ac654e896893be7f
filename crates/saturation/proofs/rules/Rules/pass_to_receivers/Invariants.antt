use Rattle.std.proofs.Common.{take}
use Rattle.abs_tree.specs.Names.{name_of}
use Rattle.saturation.specs.Passing.{PassesToReceiver}
use Rattle.saturation.specs.RuleViews.{names_of, program_of, term_of, terms_of}
use Rattle.saturation.specs.Steps.{Adds, Each}
use Rattle.saturation.proofs.rules.Rules.pass_to_receivers.Given as goal

-- the atom was passed to the receivers so far
abbrev pub invariant-loop-receiver : goal.invariant-loop-receiver
invariant-loop-receiver l = Adds (Each (λ receiver known. PassesToReceiver (program_of l.self) (terms_of l.self)
    (term_of l.self l.term) (name_of (names_of l.self) l.method) receiver l.argument l.atom)
    (take l.receiver-index l.receiver-items)) l.initial.derivation l.derivation
