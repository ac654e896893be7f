use Rattle.abs_program.proofs.BodyRowLemmas.{EachPassed}
use Rattle.abs_program.proofs.tables.entries.member_row.Given as goal
use Rattle.abs_program.specs.BodyRows.{entry_of_member, statements_of_member}
use Rattle.abs_program.specs.SlotViews.{MemberHasSlots}
use Rattle.abs_tree.specs.SyntaxViews.{member_tree}

-- the members so far have their entries
abbrev pub invariant-loop-member : goal.invariant-loop-member
invariant-loop-member l =
    EachPassed MemberHasSlots member_tree entry_of_member statements_of_member l.members l.initial.index l.member-index
    l.index l.row.items
