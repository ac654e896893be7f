use Rattle.std.proofs.Common.{List}
use Rattle.abs_tree.specs.Syntax.{Name}
use Rattle.abs_tree.specs.SyntaxViews.{type_trees}
use Rattle.abs_types.specs.Holds.{any_holds_futures}
use Rattle.abs_types.proofs.holds.+futures.Given as goal
use Rattle.list_facts.proofs.PassedLemmas.{PassedSoFar}

abbrev pub invariant-any_holds_futures-loop-term : goal.invariant-any_holds_futures-loop-term
invariant-any_holds_futures-loop-term l =
    (names : List Name) → PassedSoFar (λ items. any_holds_futures (type_trees names items)) l.terms l.term-index
