use Rattle.abs_program.proofs.SignatureLemmas.{SignaturesSoFar}
use Rattle.abs_program.proofs.tables.signatures.Signatures.new.Given as goal

-- the signatures of the declarations so far were added
abbrev pub invariant-loop-index : goal.invariant-loop-index
invariant-loop-index l = SignaturesSoFar l.symbols l.declarations l.index l.rows.items
