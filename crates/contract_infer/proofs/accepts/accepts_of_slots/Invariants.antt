use Rattle.std.proofs.Common.{[], map}
use Rattle.abs_program.specs.NamedViews.{named_tree}
use Rattle.contract_infer.specs.DeclaredTypes.{maybe_types}
use Rattle.contract_terms.specs.Accepts.{accepts_of}
use Rattle.contract_terms.specs.Views.{accepts_tree}
use Rattle.list_facts.proofs.AddedLemmas.{AddedToSoFar}
use Rattle.contract_infer.proofs.accepts.accepts_of_slots.Given as goal

-- what the types so far let in was added
abbrev pub invariant-loop-term : goal.invariant-loop-term
invariant-loop-term l =
    AddedToSoFar (λ items. map (accepts_of (named_tree l.program).declarations)
    (maybe_types l.program.symbols items)) [] l.types l.term-index
    (map (accepts_tree l.program.symbols) l.found.items)
