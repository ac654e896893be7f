use Rattle.contract_terms.specs.Views.{reads_tree}
use Rattle.saturation.proofs.AtomLemmas.{own_found, this_found}
use Rattle.saturation.proofs.statements.add_own.Goals as goal

pub returns-then-reads : goal.returns-then-reads
returns-then-reads c =
    this_found c.args.sign.now c.copied.result (reads_tree c.args.reads.now) c.if-reads.true c.copied.ensures
    c.args.atoms.now.items c.add_fields.new.atoms.items (rw c.as_slice.ensures.value at c.add_fields.ensures)
    c.push.ensures

pub returns-else-reads : goal.returns-else-reads
returns-else-reads c =
    own_found c.args.sign.now (reads_tree c.args.reads.now) c.if-reads.false c.args.atoms.now.items
    (rw c.as_slice.ensures.value at c.add_fields.ensures)
