use Rattle.contract_terms.specs.Views.{reads_tree}
use Rattle.saturation.proofs.AtomLemmas.{gives_grows}
use Rattle.saturation.proofs.PassLemmas.{mapped_at}
use Rattle.saturation.proofs.StartLemmas.{arrives_each}
use Rattle.saturation.proofs.StepLemmas.{adds_each_more, adds_found}
use Rattle.saturation.proofs.rules.Rules.arrive_each.Goals as goal

pub loop-atom-preserved : goal.loop-atom-preserved
loop-atom-preserved c =
    adds_each_more _ c.deref-atom-items.result.now c.loop-atom.atom-index c.atom-item.result
    c.loop-atom-test.true c.atom-item.is c.loop-atom.invariant c.arrive.ensures

pub returns : goal.returns
returns c =
    arrives_each (mapped_at reads_tree c.args.term.now.reads.items c.args.expr c.index.result.now c.requires
    c.index.ensures) (adds_found c.deref-atom-items.ensures.value c.loop-atom-test.false
    (gives_grows c.args.kind.now (reads_tree c.index.result.now)) c.atoms_of-atoms.ensures c.loop-atom.invariant)
