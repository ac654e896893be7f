use Rattle.std.proofs.Common.{List, map}
use Rattle.abs_program.proofs.CountLemmas.{CountedSoFar}
use Rattle.abs_program.specs.MadeInstructions.{member_loops}
use Rattle.abs_tree.specs.Syntax.{Name}
use Rattle.abs_tree.specs.SyntaxSizes.{member_statements}
use Rattle.abs_tree.specs.SyntaxViews.{member_tree}
use Rattle.abs_program.proofs.tables.loop_sizes.count_members.Given as goal

-- the members so far were counted
abbrev pub invariant-loop-member : goal.invariant-loop-member
invariant-loop-member l =
    (names : List Name) → CountedSoFar (λ items. member_statements (map (member_tree names) items))
    (λ items. member_loops (map (member_tree names) items)) l.members l.member-index l.count
    l.initial.loops.items l.loops.items
