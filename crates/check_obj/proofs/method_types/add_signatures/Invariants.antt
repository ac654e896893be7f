use Rattle.std.proofs.Common.{map, take}
use Rattle.abs_tree.specs.SyntaxViews.{signature_tree}
use Rattle.check_obj.proofs.GrownRowLemmas.{GrownRow, names_in}
use Rattle.check_obj.proofs.method_types.add_signatures.Given as goal

abbrev pub invariant-loop-signature : goal.invariant-loop-signature
invariant-loop-signature l =
    GrownRow l.fn.checker l.checker (map (signature_tree (names_in l.fn.checker)) (take l.signature-index l.signatures))
    l.fn.row.types.entries l.row.types.entries
