use Rattle.std.proofs.Common.{map}
use Rattle.std.specs.List.{list_all}
use Rattle.abs_program.specs.KnownNames.{has_name}
use Rattle.abs_tree.specs.DeclaredNames.{member_names}
use Rattle.abs_tree.specs.SyntaxViews.{member_tree}
use Rattle.abs_program.proofs.known.knows_members.Given as goal
use Rattle.list_facts.proofs.PassedLemmas.{PassedSoFar}

abbrev pub invariant-loop-member : goal.invariant-loop-member
invariant-loop-member l =
    PassedSoFar (λ items. list_all (has_name l.symbols) (member_names (map (member_tree l.symbols) items))) l.members l.member-index
