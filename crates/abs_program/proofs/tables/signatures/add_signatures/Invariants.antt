use Rattle.abs_program.proofs.SignatureLemmas.{AmongSoFar}
use Rattle.abs_program.proofs.tables.signatures.add_signatures.Given as goal

-- the signatures so far were added
abbrev pub invariant-loop-index : goal.invariant-loop-index
invariant-loop-index l = AmongSoFar l.symbols l.interface l.signatures l.index l.initial.rows.items l.rows.items
