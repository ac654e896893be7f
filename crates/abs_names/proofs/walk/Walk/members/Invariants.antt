use Rattle.abs_program.specs.SlotViews.{MemberHasSlots}
use Rattle.abs_names.proofs.InPlaceLemmas.{ChangedSoFar}
use Rattle.abs_names.proofs.MemberLemmas.{in_class, member_resolution}
use Rattle.abs_names.proofs.walk.Walk.members.Given as goal
use Rattle.list_facts.proofs.InPlaceLemmas.{HaveSoFar}

abbrev pub invariant-loop-member : goal.invariant-loop-member
invariant-loop-member l =
    ChangedSoFar member_resolution (in_class l.fn.self.scope) l.fn.earlier l.fn.self.first l.fn.members.items
    l.member-index l.member-items (in_class l.self.scope) l.earlier l.self.first
    × HaveSoFar (MemberHasSlots l.fn.self.scope.names.after) l.member-index l.member-items
