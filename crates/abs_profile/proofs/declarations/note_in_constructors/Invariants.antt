use Rattle.std.proofs.Common.{List, map}
use Rattle.std.specs.List.{flat_map}
use Rattle.abs_tree.specs.Syntax.{Name}
use Rattle.abs_tree.specs.SyntaxViews.{constructor_tree}
use Rattle.abs_profile.proofs.NotedLemmas.{NotedSoFar}
use Rattle.abs_profile.specs.Profile.{constructor_offences}
use Rattle.abs_profile.proofs.declarations.note_in_constructors.Given as goal

-- the offences of the constructors so far are noted
abbrev pub invariant-loop-constructor : goal.invariant-loop-constructor
invariant-loop-constructor l =
    (names : List Name)
    → NotedSoFar (λ items. flat_map constructor_offences (map (constructor_tree names) items)) l.constructors
    l.constructor-index l.fn.first l.first
