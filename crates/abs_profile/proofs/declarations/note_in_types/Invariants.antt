use Rattle.std.proofs.Common.{List}
use Rattle.abs_tree.specs.Syntax.{Name}
use Rattle.abs_tree.specs.SyntaxViews.{type_trees}
use Rattle.abs_profile.proofs.NotedLemmas.{NotedSoFar}
use Rattle.abs_profile.specs.Profile.{types_offences}
use Rattle.abs_profile.proofs.declarations.note_in_types.Given as goal

-- the offences of the types so far are noted
abbrev pub invariant-loop-type_of : goal.invariant-loop-type_of
invariant-loop-type_of l =
    (names : List Name)
    → NotedSoFar (λ items. types_offences (type_trees names items)) l.types l.type_of-index l.fn.first l.first
