use Rattle.abs_names.proofs.DeclarationLemmas.{signature_resolution}
use Rattle.abs_names.proofs.InPlaceLemmas.{ChangedSoFar}
use Rattle.abs_names.proofs.walk.Walk.signatures.Given as goal

abbrev pub invariant-loop-signature : goal.invariant-loop-signature
invariant-loop-signature l =
    ChangedSoFar signature_resolution l.fn.self.scope 0 l.fn.self.first l.fn.signatures.items l.signature-index
    l.signature-items l.self.scope 0 l.self.first
