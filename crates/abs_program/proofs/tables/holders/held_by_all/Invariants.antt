use Rattle.std.proofs.Common.{[], map}
use Rattle.abs_program.specs.Holdings.{held_by_constructors}
use Rattle.abs_program.specs.KeptSpaces.{spaces_by_name}
use Rattle.abs_tree.specs.SyntaxViews.{constructor_tree}
use Rattle.abs_program.proofs.tables.holders.held_by_all.Given as goal
use Rattle.list_facts.proofs.AddedLemmas.{AddedToSoFar}

abbrev pub invariant-loop-constructor : goal.invariant-loop-constructor
invariant-loop-constructor l =
    AddedToSoFar (λ items. held_by_constructors (spaces_by_name l.fn.symbols l.fn.spaces)
    (map (constructor_tree l.fn.symbols) items)) [] l.constructors l.constructor-index l.found.items
