use Rattle.saturation.proofs.FindLemmas.{AtomsSoFar}
use Rattle.saturation.proofs.derivation.Derivation.add_atoms.Given as goal

-- the atoms of the facts so far were added
abbrev pub invariant-loop-fact : goal.invariant-loop-fact
invariant-loop-fact l = AtomsSoFar l.initial.atoms.items l.fact-items l.fact-index l.atoms.items l.initial.self l.self
