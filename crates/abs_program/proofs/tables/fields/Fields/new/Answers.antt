use Rattle.std.proofs.Common.{refl}
use Rattle.abs_program.proofs.FieldLemmas.{rows_start, rows_step, rows_done}
use Rattle.abs_program.proofs.tables.fields.Fields.new.Goals as goal

pub loop-declaration-init : goal.loop-declaration-init
loop-declaration-init c = rows_start c.args.declarations.now c.new-rows.ensures.items

pub loop-declaration-preserved : goal.loop-declaration-preserved
loop-declaration-preserved c =
    rows_step c.declaration-item.result c.in_ok-field_row.field-0 c.loop-declaration.invariant
    c.loop-declaration-test.true c.declaration-item.is c.in_ok-push.ensures.items c.in_ok-field_row.ensures

pub returns : goal.returns
returns c names = rows_done names _ c.loop-declaration.invariant c.loop-declaration-test.false refl
