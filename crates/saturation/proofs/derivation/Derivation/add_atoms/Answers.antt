use Rattle.saturation.proofs.FindLemmas.{atoms_step, atoms_done}
use Rattle.saturation.proofs.derivation.Derivation.add_atoms.Goals as goal

pub loop-fact-preserved : goal.loop-fact-preserved
loop-fact-preserved c =
    atoms_step c.deref-fact-items.result.now c.fact-item.result c.loop-fact-test.true c.fact-item.is
    c.loop-fact.invariant c.add_atom_of.ensures

pub returns : goal.returns
returns c =
    atoms_done c.deref-fact-items.ensures.value c.with_key-found.ensures c.loop-fact-test.false
    c.loop-fact.invariant
