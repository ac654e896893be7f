use Rattle.std.proofs.Common.{◌≡◌, List, ◌++◌, map}
use Rattle.abs_program.specs.MadeInstructions.{MadeMembers}
use Rattle.abs_tree.specs.Syntax.{Name}
use Rattle.abs_tree.specs.SyntaxViews.{member_tree}
use Rattle.abs_tree.specs.declared.syntax.declaration.Member.{Member}
use Rattle.abs_program.proofs.tables.instructions.Maker.add_members.Given as goal

-- the members that are left are followed by some whose instructions were made
abbrev pub invariant-loop-member : goal.invariant-loop-member
invariant-loop-member l =
    (goal.iterator-loop-member).can_next l.member-iterator
    × (goal.iterator-loop-member).is_finite l.member-iterator
    × ((done : List Member) × (l.members ≡ l.member-iterator.iter.rest.now ++ done)
    × ((names : List Name) → MadeMembers names (map (member_tree names) done) l.fn.self l.self))
