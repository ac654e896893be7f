use Rattle.abs_program.specs.NamedViews.{named_tree}
use Rattle.abs_tree.specs.SyntaxViews.{type_trees}
use Rattle.abs_types.specs.Holds.{any_holds_objects}
use Rattle.abs_types.proofs.holds.+objects.Given as goal
use Rattle.list_facts.proofs.PassedLemmas.{PassedSoFar}

abbrev pub invariant-any_holds_objects-loop-term : goal.invariant-any_holds_objects-loop-term
invariant-any_holds_objects-loop-term l =
    PassedSoFar (λ items. any_holds_objects (named_tree l.fn.program).declarations
    (type_trees l.fn.program.symbols items)) l.terms l.term-index
