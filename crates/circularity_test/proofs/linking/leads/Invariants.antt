use Rattle.std.proofs.Common.{Contains, take}
use Rattle.abs_program.specs.NamedViews.{program_tree}
use Rattle.abs_tree.specs.Names.{name_of}
use Rattle.abs_tree.specs.declared.symbol.Symbol.{Symbol}
use Rattle.circularity_test.specs.Linking.{LeadsIn}
use Rattle.circularity_test.proofs.linking.leads.Given as goal

-- none of those so far leads there
abbrev pub invariant-loop-class : goal.invariant-loop-class
invariant-loop-class l = (class : Symbol) → Contains (take l.class-index l.classes) class
    → LeadsIn (program_tree l.program.checked.named) (name_of l.program.checked.named.symbols class) l.one l.other → ⊥
