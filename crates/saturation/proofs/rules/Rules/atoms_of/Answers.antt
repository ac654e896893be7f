use Rattle.contract_terms.specs.Views.{reads_tree}
use Rattle.saturation.proofs.AtomLemmas.{main_gives, method_gives}
use Rattle.saturation.proofs.rules.Rules.atoms_of.Goals as goal

pub returns-in-Main : goal.returns-in-Main
returns-in-Main c =
    main_gives c.args.kind.now c.in-Main.is (reads_tree c.args.reads.now) c.no_atoms-atoms.result.items
    c.no_atoms-atoms.ensures (rw c.as_slice.ensures.value at c.add_slots.ensures)

pub returns-in-Method : goal.returns-in-Method
returns-in-Method c =
    method_gives c.args.kind.now c.in-Method.sign c.in-Method.field-1 c.in-Method.is (reads_tree c.args.reads.now)
    c.no_atoms-atoms.result.items c.add_slots.new.atoms.items c.no_atoms-atoms.ensures
    (rw c.as_slice.ensures.value at c.add_slots.ensures) c.add_own.ensures
