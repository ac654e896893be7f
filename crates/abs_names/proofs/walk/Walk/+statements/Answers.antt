use Rattle.std.proofs.Common.{◌≡◌, ◌∙◌, ◌++◌, ◌+◌, ◌*◌, arith, refl, sym, ap, subst, length, fold}
use Rattle.abs_tree.proofs.StatementLemmas.{statement-block, branch_size, block_tree, while_tree-value, if_tree-value}
use Rattle.abs_tree.specs.Offences.{earlier}
use Rattle.abs_program.specs.Slots.{statement_slots}
use Rattle.std.specs.Prelude.{Option}
use Rattle.std.specs.declared.alloc.Global.{Global}
use Rattle.std.specs.declared.vec.Vec.{Vec}
use Rattle.abs_tree.specs.Syntax.{Statement, BlockOf}
use Rattle.abs_tree.specs.SyntaxViews.{statement}
use Rattle.abs_tree.specs.declared.syntax.statement.Stmt.{Stmt}
use Rattle.abs_names.specs.NameOffences.{statement_offences}
use Rattle.abs_names.specs.Resolution.{resolved_statement}
use Rattle.abs_names.proofs.BlockLemmas.{block_step, block_done, slots_done}
use Rattle.abs_names.proofs.ControlLemmas.{while_found, while_noted, slots_of_tree, if_found, if_noted, if_slots, slots_after}
use Rattle.abs_names.proofs.LeaveLemmas.{left_is}
use Rattle.abs_names.proofs.walk.Walk.+statements.Goals as goal

pub block-loop-stmt-preserved : goal.block-loop-stmt-preserved
block-loop-stmt-preserved t c =
    block_step c.stmt-item.result c.in_ok-statement.field-0 c.loop-stmt.invariant c.loop-stmt-test.true c.stmt-item.is
    c.in_ok-statement.ensures.found c.in_ok-statement.ensures.noted c.in_ok-statement.ensures.slots
    c.in_ok-statement.ensures.names c.in_ok-statement.ensures.after c.in_ok-push.ensures.items

pub block-returns-clause-found : goal.block-returns-clause-found
block-returns-clause-found t c = (block_done c.loop-stmt.invariant c.loop-stmt-test.false).resolved

pub block-returns-clause-noted : goal.block-returns-clause-noted
block-returns-clause-noted t c = (block_done c.loop-stmt.invariant c.loop-stmt-test.false).offences

pub block-returns-clause-slots : goal.block-returns-clause-slots
block-returns-clause-slots t c = slots_done c.loop-stmt.invariant c.loop-stmt-test.false

pub block-returns-clause-scope : goal.block-returns-clause-scope
block-returns-clause-scope t c =
    let before = c.args.self.now.scope in
    left_is before c.loop-stmt.self.scope c.loop-stmt.self.scope c.leave.new.self c.len-outside.result
    c.loop-stmt.invariant.within c.loop-stmt.invariant.names_are refl c.len-outside.ensures c.leave.ensures.names
    c.leave.ensures.scope

pub statement-returns-in_ok-block-in-Block-clause-found
    : goal.statement-returns-in_ok-block-in-Block-clause-found
statement-returns-in_ok-block-in-Block-clause-found t c =
    let start = c.args.self.now.scope in
    let form = c.in-Block in
    statement-block start.names.after form.place c.in_ok-block-in-Block.field-0
    ∙ (ap (BlockOf form.place) c.in_ok-block-in-Block.ensures.found
    ∙ sym (ap (resolved_statement start.scope (length c.args.slots.now.items.items))
    (block_tree start.names.before c.args.stmt.now form.place form.block c.deref.result.now form.is
    c.deref.ensures.value)))

pub statement-returns-in_ok-block-in-Block-clause-noted
    : goal.statement-returns-in_ok-block-in-Block-clause-noted
statement-returns-in_ok-block-in-Block-clause-noted t c =
    let start = c.args.self.now.scope in
    let form = c.in-Block in
    c.in_ok-block-in-Block.ensures.noted
    ∙ sym (ap (λ (tree : Statement). fold earlier c.args.self.now.first
    (statement_offences start.scope (length c.args.slots.now.items.items) tree))
    (block_tree start.names.before c.args.stmt.now form.place form.block c.deref.result.now form.is
    c.deref.ensures.value))

pub statement-returns-in_ok-block-in-Block-clause-slots
    : goal.statement-returns-in_ok-block-in-Block-clause-slots
statement-returns-in_ok-block-in-Block-clause-slots t c =
    let start = c.args.self.now.scope in
    let form = c.in-Block in
    c.in_ok-block-in-Block.ensures.slots
    ∙ sym (ap (λ (tree : Statement). c.args.slots.now.items.items ++ statement_slots tree)
    (block_tree start.names.before c.args.stmt.now form.place form.block c.deref.result.now form.is
    c.deref.ensures.value))

pub statement-returns-in_ok-block-in-While-clause-found
    : goal.statement-returns-in_ok-block-in-While-clause-found
statement-returns-in_ok-block-in-While-clause-found t c =
    let start = c.args.self.now.scope in
    let form = c.in-While in
    let value = c.deref-in-While.result.now in
    let items = c.deref-in-While-2.result.now in
    while_found start c.shared-in-While.new.self.scope (length c.args.slots.now.items.items)
    (statement start.names.before c.args.stmt.now) form.index form.place c.in_ok-shared-in-While.field-0
    c.in_ok-block-in-While.field-0 value items
    (while_tree-value start.names.before c.args.stmt.now form.index form.place form.condition form.body value items
    form.is
    c.deref-in-While.ensures c.deref-in-While-2.ensures.value)
    c.in_ok-shared-in-While.ensures.scope c.in_ok-shared-in-While.ensures.found c.in_ok-block-in-While.ensures.found

pub statement-returns-in_ok-block-in-While-clause-noted
    : goal.statement-returns-in_ok-block-in-While-clause-noted
statement-returns-in_ok-block-in-While-clause-noted t c =
    let start = c.args.self.now.scope in
    let form = c.in-While in
    let value = c.deref-in-While.result.now in
    let items = c.deref-in-While-2.result.now in
    while_noted start c.shared-in-While.new.self.scope (length c.args.slots.now.items.items)
    (statement start.names.before c.args.stmt.now) form.index form.place value items c.args.self.now.first
    c.shared-in-While.new.self.first c.block-in-While.new.self.first
    (while_tree-value start.names.before c.args.stmt.now form.index form.place form.condition form.body value items
    form.is
    c.deref-in-While.ensures c.deref-in-While-2.ensures.value)
    c.in_ok-shared-in-While.ensures.scope c.in_ok-shared-in-While.ensures.noted c.in_ok-block-in-While.ensures.noted

pub statement-returns-in_ok-block-in-While-clause-slots
    : goal.statement-returns-in_ok-block-in-While-clause-slots
statement-returns-in_ok-block-in-While-clause-slots t c =
    let start = c.args.self.now.scope in
    let form = c.in-While in
    let value = c.deref-in-While.result.now in
    let items = c.deref-in-While-2.result.now in
    slots_of_tree start c.shared-in-While.new.self.scope (statement start.names.before c.args.stmt.now) items
    c.args.slots.now.items.items c.block-in-While.new.slots.items.items
    (ap statement_slots (while_tree-value start.names.before c.args.stmt.now form.index form.place form.condition
    form.body value items form.is c.deref-in-While.ensures c.deref-in-While-2.ensures.value))
    c.in_ok-shared-in-While.ensures.scope c.in_ok-block-in-While.ensures.slots

pub maybe_block-block-requires : goal.maybe_block-block-requires
maybe_block-block-requires t c =
    let size = subst (λ (branch : Option (Vec Stmt Global)). 3 * branch_size branch + 2 ≡ t) c.in-Some.is c.decreases in
    (rw c.deref.ensures.value (omega (arith, size)), tt)

pub statement-returns-in_ok-maybe_block-in-If-clause-found : goal.statement-returns-in_ok-maybe_block-in-If-clause-found
statement-returns-in_ok-maybe_block-in-If-clause-found t c =
    let start = c.args.self.now.scope in
    let form = c.in-If in
    let value = c.deref-in-If.result.now in
    let items = c.deref-in-If-2.result.now in
    if_found start c.shared.new.self.scope c.block-in-If.new.self.scope (length c.args.slots.now.items.items)
    (length c.block-in-If.new.slots.items.items) (statement start.names.before c.args.stmt.now) form.index form.place
    c.in_ok-shared-in-If.field-0 c.in_ok-block-in-If.field-0 c.in_ok-maybe_block-in-If.field-0 value items form.second
    (if_tree-value start.names.before c.args.stmt.now form.index form.place form.condition form.first form.second value
    items form.is c.deref-in-If.ensures c.deref-in-If-2.ensures.value)
    c.in_ok-shared-in-If.ensures.scope (c.in_ok-block-in-If.ensures.scope ∙ c.in_ok-shared-in-If.ensures.scope)
    (slots_after start c.shared.new.self.scope items c.args.slots.now.items.items
    c.block-in-If.new.slots.items.items c.in_ok-shared-in-If.ensures.scope c.in_ok-block-in-If.ensures.slots)
    c.in_ok-shared-in-If.ensures.found c.in_ok-block-in-If.ensures.found c.in_ok-maybe_block-in-If.ensures.found

pub statement-returns-in_ok-maybe_block-in-If-clause-noted : goal.statement-returns-in_ok-maybe_block-in-If-clause-noted
statement-returns-in_ok-maybe_block-in-If-clause-noted t c =
    let start = c.args.self.now.scope in
    let form = c.in-If in
    let value = c.deref-in-If.result.now in
    let items = c.deref-in-If-2.result.now in
    if_noted start c.shared.new.self.scope c.block-in-If.new.self.scope (length c.args.slots.now.items.items)
    (length c.block-in-If.new.slots.items.items) (statement start.names.before c.args.stmt.now) form.index
    form.place value items form.second c.args.self.now.first c.shared.new.self.first c.block-in-If.new.self.first
    c.maybe_block.new.self.first
    (if_tree-value start.names.before c.args.stmt.now form.index form.place form.condition form.first form.second value
    items form.is c.deref-in-If.ensures c.deref-in-If-2.ensures.value)
    c.in_ok-shared-in-If.ensures.scope (c.in_ok-block-in-If.ensures.scope ∙ c.in_ok-shared-in-If.ensures.scope)
    (slots_after start c.shared.new.self.scope items c.args.slots.now.items.items
    c.block-in-If.new.slots.items.items c.in_ok-shared-in-If.ensures.scope c.in_ok-block-in-If.ensures.slots)
    c.in_ok-shared-in-If.ensures.noted c.in_ok-block-in-If.ensures.noted c.in_ok-maybe_block-in-If.ensures.noted

pub statement-returns-in_ok-maybe_block-in-If-clause-slots : goal.statement-returns-in_ok-maybe_block-in-If-clause-slots
statement-returns-in_ok-maybe_block-in-If-clause-slots t c =
    let start = c.args.self.now.scope in
    let form = c.in-If in
    let value = c.deref-in-If.result.now in
    let items = c.deref-in-If-2.result.now in
    if_slots start c.shared.new.self.scope c.block-in-If.new.self.scope
    (statement start.names.before c.args.stmt.now) items
    form.second c.args.slots.now.items.items c.block-in-If.new.slots.items.items c.maybe_block.new.slots.items.items
    (ap statement_slots (if_tree-value start.names.before c.args.stmt.now form.index form.place form.condition
    form.first
    form.second value items form.is c.deref-in-If.ensures c.deref-in-If-2.ensures.value))
    c.in_ok-shared-in-If.ensures.scope (c.in_ok-block-in-If.ensures.scope ∙ c.in_ok-shared-in-If.ensures.scope)
    c.in_ok-block-in-If.ensures.slots c.in_ok-maybe_block-in-If.ensures.slots
