use Rattle.std.proofs.Common.{take}
use Rattle.abs_tree.specs.Names.{name_of}
use Rattle.abs_tree.specs.declared.symbol.Symbol.{Symbol}
use Rattle.saturation.specs.Initials.{BeginsNamed}
use Rattle.saturation.specs.RuleViews.{names_of, program_of, terms_of}
use Rattle.saturation.specs.Steps.{Adds, Each}
use Rattle.saturation.proofs.rules.Rules.begin_from.Given as goal

-- the classes so far are gone through
abbrev pub invariant-loop-class : goal.invariant-loop-class
invariant-loop-class l = Adds (Each (λ (symbol : Symbol) known. BeginsNamed (program_of l.self) (terms_of l.self)
    l.self.depth l.made.keys l.sign l.field l.atom (name_of (names_of l.self) symbol))
    (take l.class-index l.class-items)) l.initial.derivation l.derivation
