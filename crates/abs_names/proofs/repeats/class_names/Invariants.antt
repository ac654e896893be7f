use Rattle.std.proofs.Common.{map}
use Rattle.abs_tree.specs.SyntaxViews.{param_tree, member_tree}
use Rattle.abs_names.specs.Repeats.{field_names, class_names}
use Rattle.abs_names.proofs.RepeatLemmas.{CollectedSoFar}
use Rattle.abs_names.proofs.repeats.class_names.Given as goal

abbrev pub invariant-loop-member : goal.invariant-loop-member
invariant-loop-member l =
    CollectedSoFar (λ names items. field_names (map (member_tree names) items))
    (λ names. class_names (map (param_tree names) l.params) (map (member_tree names) l.members)) l.members
    l.member-index l.found.items
