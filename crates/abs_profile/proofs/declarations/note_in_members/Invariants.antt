use Rattle.std.proofs.Common.{List, map}
use Rattle.std.specs.List.{flat_map}
use Rattle.abs_tree.specs.Syntax.{Name}
use Rattle.abs_tree.specs.SyntaxViews.{member_tree}
use Rattle.abs_profile.proofs.NotedLemmas.{NotedSoFar}
use Rattle.abs_profile.specs.Profile.{member_offences}
use Rattle.abs_profile.proofs.declarations.note_in_members.Given as goal

-- the offences of the members so far are noted
abbrev pub invariant-loop-member : goal.invariant-loop-member
invariant-loop-member l =
    (names : List Name) → NotedSoFar (λ items. flat_map member_offences (map (member_tree names) items)) l.members
    l.member-index l.fn.first l.first
