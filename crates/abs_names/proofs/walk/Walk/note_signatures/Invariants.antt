use Rattle.abs_tree.specs.SyntaxViews.{signature_tree}
use Rattle.abs_names.specs.Repeats.{signatures_repeats}
use Rattle.abs_names.proofs.RepeatLemmas.{NotedSoFar}
use Rattle.abs_names.proofs.walk.Walk.note_signatures.Given as goal

abbrev pub invariant-loop-signature : goal.invariant-loop-signature
invariant-loop-signature l =
    NotedSoFar signature_tree signatures_repeats l.fn.self.scope l.fn.self.first l.signatures l.signature-index l.self.scope
    l.self.first
