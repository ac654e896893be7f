use Rattle.std.proofs.Common.{◌∙◌}
use Rattle.check_obj.proofs.RowsLemmas.{rows_all, rows_next, rows_none}
use Rattle.check_obj.proofs.method_types.method_rows.Goals as goal

pub loop-declaration-init : goal.loop-declaration-init
loop-declaration-init c = rw c.in_ok-rows.ensures.items rows_none

pub returns-in_err-method_row-clause-first : goal.returns-in_err-method_row-clause-first
returns-in_err-method_row-clause-first c = c.method_row.ensures.first ∙ c.loop-declaration.invariant.first

pub returns-in_err-push-clause-first : goal.returns-in_err-push-clause-first
returns-in_err-push-clause-first c = c.method_row.ensures.first ∙ c.loop-declaration.invariant.first

pub loop-declaration-preserved : goal.loop-declaration-preserved
loop-declaration-preserved c =
    rows_next c.deref-declaration-items.result.now c.loop-declaration.declaration-index c.declaration-item.result
    c.in_ok-method_row.field-0 c.loop-declaration.invariant c.loop-declaration-test.true c.declaration-item.is
    c.method_row.ensures.first c.in_ok-method_row.ensures.stays c.in_ok-method_row.ensures.row
    c.in_ok-push.ensures.items

pub returns-clause-rows : goal.returns-clause-rows
returns-clause-rows c =
    rows_all c.deref-declaration-items.result.now c.loop-declaration.declaration-index c.loop-declaration.invariant
    c.loop-declaration-test.false c.deref-declaration-items.ensures.value

pub returns-clause-first : goal.returns-clause-first
returns-clause-first c = c.loop-declaration.invariant.first

pub returns-clause-stays : goal.returns-clause-stays
returns-clause-stays c = c.loop-declaration.invariant.stays
