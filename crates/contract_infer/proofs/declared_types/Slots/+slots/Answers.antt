use Rattle.std.proofs.Common.{inl, inr, refl}
use Rattle.abs_tree.proofs.StatementLemmas.{block_tree, if_tree, while_tree}
use Rattle.abs_types.specs.SlotTypes.{statement_slot_types}
use Rattle.contract_infer.proofs.AddLemmas.{adds_both, adds_nil, added_all, added_step}
use Rattle.contract_infer.proofs.declared_types.Slots.+slots.Goals as goal

pub other-returns-in-Some : goal.other-returns-in-Some
unfolding statement_slot_types
other-returns-in-Some t c names = rw (c.in-Some.is, ← c.deref.ensures.value) (c.statements.ensures names)

pub other-returns-in_default : goal.other-returns-in_default
unfolding statement_slot_types
other-returns-in_default t c names = rw c.in_default.is adds_nil

pub statement-returns-in-Block : goal.statement-returns-in-Block
unfolding statement_slot_types
statement-returns-in-Block t c names =
    rw (block_tree names c.args.stmt.now c.in-Block.field-0 c.in-Block.block _ c.in-Block.is c.deref.ensures.value)
    (c.statements.ensures names)

pub statement-returns-in-If : goal.statement-returns-in-If
unfolding statement_slot_types
statement-returns-in-If t c names =
    let form = c.in-If in
    rw (if_tree names c.args.stmt.now form.index form.place form.condition form.first form.second _ form.is
    c.deref-in-If.ensures.value) (adds_both (c.statements-in-If.ensures names) (c.other.ensures names))

pub statement-returns-in-While : goal.statement-returns-in-While
unfolding statement_slot_types
statement-returns-in-While t c names =
    let form = c.in-While in
    rw (while_tree names c.args.stmt.now form.index form.place form.condition form.body _ form.is
    c.deref-in-While.ensures.value) (c.statements-in-While.ensures names)

pub statement-returns-in-Declare : goal.statement-returns-in-Declare
unfolding statement_slot_types
statement-returns-in-Declare t c names =
    rw c.in-Declare.is (adds_both (c.initial.ensures names c.in-Declare.index) (c.push.ensures names))

pub statement-returns-in-Assign : goal.statement-returns-in-Assign
unfolding statement_slot_types
statement-returns-in-Assign t c names = elim c.in-Assign.is [
  | inl found ↦ rw found.3 (c.side.ensures names found.0)
  | inr found ↦ rw found.2 (c.side.ensures names found.0)
]

pub statements-loop-stmt-preserved : goal.statements-loop-stmt-preserved
unfolding statement_slot_types
statements-loop-stmt-preserved t c names =
    added_step c.stmt-item.result _ (c.loop-stmt.invariant names) c.loop-stmt-test.true c.stmt-item.is
    (c.statement.ensures names) (λ others. refl)

pub statements-returns : goal.statements-returns
unfolding statement_slot_types
statements-returns t c names = added_all (c.loop-stmt.invariant names) c.loop-stmt-test.false refl
