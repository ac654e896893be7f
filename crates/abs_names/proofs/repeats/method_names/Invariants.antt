use Rattle.std.proofs.Common.{map}
use Rattle.abs_tree.specs.SyntaxViews.{member_tree}
use Rattle.abs_names.specs.Repeats.{method_names}
use Rattle.abs_names.proofs.RepeatLemmas.{CollectedSoFar}
use Rattle.abs_names.proofs.repeats.method_names.Given as goal

abbrev pub invariant-loop-member : goal.invariant-loop-member
invariant-loop-member l =
    CollectedSoFar (λ names items. method_names (map (member_tree names) items))
    (λ names. method_names (map (member_tree names) l.members)) l.members l.member-index l.found.items
