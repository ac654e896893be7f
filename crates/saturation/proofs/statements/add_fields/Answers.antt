use Rattle.std.proofs.lemmas.List.{get_or_default}
use Rattle.saturation.specs.Passing.{HoldsInField}
use Rattle.saturation.proofs.AtomLemmas.{field_found}
use Rattle.saturation.proofs.EachLemmas.{finds_each, finds_each_more, finds_each_none}
use Rattle.saturation.proofs.statements.add_fields.Goals as goal

pub loop-field-init : goal.loop-field-init
loop-field-init c =
    finds_each_none (HoldsInField c.args.sign.now) c.args.atoms.now.items c.args.fields.now c.args.derivation.now

pub loop-field-preserved : goal.loop-field-preserved
loop-field-preserved c =
    finds_each_more (HoldsInField c.args.sign.now) c.args.atoms.now.items c.args.fields.now c.loop-field.field-index _
    c.loop-field-test.true (get_or_default _ _ _ _ c.loop-field-test.true) c.loop-field.invariant
    (field_found c.args.sign.now c.copied.result _ c.copied.ensures c.loop-field.atoms.items c.add_atoms.ensures)

pub returns : goal.returns
returns c =
    finds_each (HoldsInField c.args.sign.now) c.args.atoms.now.items c.args.fields.now c.loop-field.field-index
    c.loop-field-test.false c.loop-field.invariant
