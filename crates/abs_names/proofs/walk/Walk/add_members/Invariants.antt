use Rattle.std.proofs.Common.{◌≡◌}
use Rattle.abs_names.proofs.MemberLemmas.{AddedSoFar}
use Rattle.abs_names.proofs.walk.Walk.add_members.Given as goal

abbrev pub invariant-loop-member : goal.invariant-loop-member
invariant-loop-member l =
    AddedSoFar l.fn.self.scope l.fn.earlier l.members l.member-index l.self.scope l.index
    × (l.self.first ≡ l.fn.self.first)
