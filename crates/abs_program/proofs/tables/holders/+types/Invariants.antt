use Rattle.abs_program.specs.Holdings.{declarations_in_all}
use Rattle.abs_program.specs.KeptSpaces.{spaces_by_name}
use Rattle.abs_tree.specs.SyntaxViews.{type_trees}
use Rattle.abs_program.proofs.tables.holders.+types.Given as goal
use Rattle.list_facts.proofs.AddedLemmas.{AddedToSoFar}

abbrev pub invariant-add_types-loop-term : goal.invariant-add_types-loop-term
invariant-add_types-loop-term l =
    AddedToSoFar (λ items. declarations_in_all (spaces_by_name l.fn.symbols l.fn.spaces)
    (type_trees l.fn.symbols items)) l.fn.found.items l.terms l.term-index l.found.items
