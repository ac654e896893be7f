use Rattle.std.proofs.Common.{List, [], map}
use Rattle.abs_program.specs.Holdings.{are_interfaces}
use Rattle.abs_tree.specs.Syntax.{Name}
use Rattle.abs_tree.specs.SyntaxViews.{decl_tree}
use Rattle.abs_program.proofs.tables.holders.are_interfaces.Given as goal
use Rattle.list_facts.proofs.AddedLemmas.{AddedToSoFar}

abbrev pub invariant-loop-declaration : goal.invariant-loop-declaration
invariant-loop-declaration l =
    (names : List Name) → AddedToSoFar (λ items. are_interfaces (map (decl_tree names) items)) [] l.declarations
    l.declaration-index l.found.items
