use Rattle.std.proofs.Common.{map}
use Rattle.std.specs.List.{list_all}
use Rattle.abs_program.specs.KnownNames.{has_name}
use Rattle.abs_tree.specs.DeclaredNames.{signature_names}
use Rattle.abs_tree.specs.SyntaxViews.{signature_tree}
use Rattle.abs_program.proofs.known.knows_signatures.Given as goal
use Rattle.list_facts.proofs.PassedLemmas.{PassedSoFar}

abbrev pub invariant-loop-signature : goal.invariant-loop-signature
invariant-loop-signature l =
    PassedSoFar (λ items. list_all (has_name l.symbols) (signature_names (map (signature_tree l.symbols) items))) l.signatures l.signature-index
