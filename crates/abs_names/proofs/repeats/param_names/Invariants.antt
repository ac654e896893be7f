use Rattle.std.proofs.Common.{map}
use Rattle.abs_tree.specs.SyntaxViews.{param_tree}
use Rattle.abs_names.specs.Repeats.{param_names}
use Rattle.abs_names.proofs.RepeatLemmas.{CollectedSoFar}
use Rattle.abs_names.proofs.repeats.param_names.Given as goal

abbrev pub invariant-loop-param : goal.invariant-loop-param
invariant-loop-param l =
    CollectedSoFar (λ names items. param_names (map (param_tree names) items))
    (λ names. param_names (map (param_tree names) l.params)) l.params l.param-index l.found.items
