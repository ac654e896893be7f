use Rattle.std.proofs.Common.{[], map}
use Rattle.abs_program.specs.NamedViews.{named_tree}
use Rattle.contract_infer.specs.DeclaredTypes.{type_trees_at}
use Rattle.contract_terms.specs.Accepts.{accepts_in}
use Rattle.contract_terms.specs.Views.{accepts_tree}
use Rattle.list_facts.proofs.AddedLemmas.{AddedToSoFar}
use Rattle.contract_infer.proofs.accepts.accepts_of_types.Given as goal

-- what the types so far let in was added
abbrev pub invariant-loop-term : goal.invariant-loop-term
invariant-loop-term l =
    AddedToSoFar (λ items. map (accepts_in (named_tree l.program).declarations)
    (type_trees_at l.program.symbols items)) [] l.types l.term-index
    (map (accepts_tree l.program.symbols) l.found.items)
