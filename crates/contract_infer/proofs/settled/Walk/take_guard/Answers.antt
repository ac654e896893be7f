use Rattle.std.proofs.Common.{List, ap, ◌∙◌, take}
use Rattle.std.proofs.lemmas.List.{take_all}
use Rattle.abs_tree.specs.SyntaxViews.{tests}
use Rattle.abs_tree.specs.declared.syntax.statement.Test.{Test}
use Rattle.contract_infer.proofs.SettledEffectLemmas.{named_slots_in-push}
use Rattle.contract_infer.proofs.SettledStepLemmas.{take_item, takes_both, takes_none, takes_same}
use Rattle.contract_infer.specs.SettledWalk.{named_slots_in}
use Rattle.contract_infer.proofs.settled.Walk.take_guard.Goals as goal

pub loop-test-init : goal.loop-test-init
loop-test-init c names = takes_none c.args.self.now c.args.row.now.items

pub loop-test-preserved : goal.loop-test-preserved
loop-test-preserved c names =
    let guard = c.args.guard.now in
    let index = c.loop-test.test-index in
    let test = c.test-item.result in
    takes_same
    (named_slots_in-push names (take index guard) test c.named_by.result (c.named_by.ensures names)
    ∙ ap (λ (parts : List Test). named_slots_in (tests names parts))
    (take_item guard index test c.loop-test-test.true c.test-item.is))
    (takes_both (c.loop-test.invariant names) c.take.ensures)

pub returns : goal.returns
returns c names =
    takes_same
    (ap (λ (parts : List Test). named_slots_in (tests names parts))
    (take_all c.loop-test.test-index c.args.guard.now c.loop-test-test.false))
    (c.loop-test.invariant names)
