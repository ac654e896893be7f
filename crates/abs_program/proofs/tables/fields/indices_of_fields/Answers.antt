use Rattle.abs_program.proofs.FieldLemmas.{indices_start, indices_step, indices_done}
use Rattle.abs_program.proofs.tables.fields.indices_of_fields.Goals as goal

pub loop-index-init : goal.loop-index-init
loop-index-init c = indices_start c.args.members.now c.new-indices.ensures.items

pub loop-index-preserved : goal.loop-index-preserved
loop-index-preserved c =
    indices_step c.index-members-index.result c.loop-index.invariant c.loop-index-test.true c.index-members-index.is
    c.in_ok-add_field.ensures

pub returns : goal.returns
returns c names = indices_done names c.loop-index.invariant c.loop-index-test.false
