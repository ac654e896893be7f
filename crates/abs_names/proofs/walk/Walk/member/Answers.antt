use Rattle.std.proofs.Common.{◌∙◌, List, ◌++◌, ap, subst, length, arith}
use Rattle.std.proofs.lemmas.Grind.{common_steps}
use Rattle.abs_program.specs.SlotViews.{BodyHasSlots}
use Rattle.abs_program.specs.Slots.{body_slots, statements_slots}
use Rattle.abs_tree.specs.SyntaxViews.{statements}
use Rattle.abs_tree.specs.declared.syntax.declaration.Param.{Param}
use Rattle.abs_tree.specs.declared.syntax.slot.Slot.{Slot}
use Rattle.abs_names.specs.Visible.{Names, Visible}
use Rattle.abs_names.proofs.ParamLemmas.{slots_count}
use Rattle.abs_names.proofs.SlotLemmas.{method_has_slots}
use Rattle.abs_names.proofs.walk.Walk.member.Goals as goal

pub returns-in_ok-body-in-Method-clause-found : goal.returns-in_ok-body-in-Method-clause-found
returns-in_ok-body-in-Method-clause-found c =
    let count = slots_count c.args.self.now.scope.names.before c.in_ok-slots-in-Method.ensures.slots
    c.as_slice.ensures.value in
    grind (arith, common_steps, count)

pub returns-in_ok-body-in-Method-clause-noted : goal.returns-in_ok-body-in-Method-clause-noted
returns-in_ok-body-in-Method-clause-noted c =
    let count = slots_count c.args.self.now.scope.names.before c.in_ok-slots-in-Method.ensures.slots
    c.as_slice.ensures.value in
    grind (arith, common_steps, count)

pub returns-in_ok-body-in-Method-clause-has_slots : goal.returns-in_ok-body-in-Method-clause-has_slots
returns-in_ok-body-in-Method-clause-has_slots c =
    let begins = c.in_ok-slots-in-Method.ensures in
    let head = c.in_ok-signature-in-Method.ensures in
    let rest = c.in_ok-body-in-Method.ensures in
    let old = c.in-Method.body in
    let trees = statements c.signature.new.self.scope.names.before old.statements.items in
    subst (λ (ns : Names). BodyHasSlots ns.after (length c.signature.new.signature.params.items) c.body.new.body)
    (ap (λ (v : Visible). v.names) head.scope ∙ begins.names)
    (method_has_slots _ _ c.in-Method.signature.params.items _ old _ _ _ head.params rest.found
    (rest.slots ∙ (ap (λ (slots : List Slot). slots ++ statements_slots trees) begins.slots
    ∙ ap (λ (params : List Param). body_slots (length params) trees) c.as_slice.ensures.value)) rest.few)
