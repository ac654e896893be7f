use Rattle.abs_tree.specs.SyntaxViews.{member_tree}
use Rattle.abs_names.specs.Repeats.{members_repeats}
use Rattle.abs_names.proofs.RepeatLemmas.{NotedSoFar}
use Rattle.abs_names.proofs.walk.Walk.note_members.Given as goal

abbrev pub invariant-loop-member : goal.invariant-loop-member
invariant-loop-member l =
    NotedSoFar member_tree members_repeats l.fn.self.scope l.fn.self.first l.members l.member-index l.self.scope
    l.self.first
