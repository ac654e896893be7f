use Rattle.std.proofs.Common.{map}
use Rattle.std.specs.List.{list_all}
use Rattle.abs_program.specs.KnownNames.{has_name}
use Rattle.abs_tree.specs.DeclaredNames.{constructor_names}
use Rattle.abs_tree.specs.SyntaxViews.{constructor_tree}
use Rattle.abs_program.proofs.known.knows_constructors.Given as goal
use Rattle.list_facts.proofs.PassedLemmas.{PassedSoFar}

abbrev pub invariant-loop-constructor : goal.invariant-loop-constructor
invariant-loop-constructor l =
    PassedSoFar (λ items. list_all (has_name l.symbols) (constructor_names (map (constructor_tree l.symbols) items))) l.constructors l.constructor-index
