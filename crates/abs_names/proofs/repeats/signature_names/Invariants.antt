use Rattle.std.proofs.Common.{map}
use Rattle.abs_tree.specs.SyntaxViews.{signature_tree}
use Rattle.abs_names.specs.Repeats.{signature_names}
use Rattle.abs_names.proofs.RepeatLemmas.{CollectedSoFar}
use Rattle.abs_names.proofs.repeats.signature_names.Given as goal

abbrev pub invariant-loop-signature : goal.invariant-loop-signature
invariant-loop-signature l =
    CollectedSoFar (λ names items. signature_names (map (signature_tree names) items))
    (λ names. signature_names (map (signature_tree names) l.signatures)) l.signatures l.signature-index l.found.items
