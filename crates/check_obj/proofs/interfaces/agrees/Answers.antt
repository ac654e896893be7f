use Rattle.std.proofs.Common.{◌≡◌, Bool}
use Rattle.std.proofs.lemmas.Result.{IfOk-weaker}
use Rattle.abs_types.specs.InterfacesMet.{agrees as agree_in}
use Rattle.abs_types.specs.TypeTables.{declarations_of}
use Rattle.check_obj.proofs.AgreedLemmas.{agreed_all, agreed_fails, agreed_first, agreed_next, agreed_none}
use Rattle.check_obj.proofs.MeetLemmas.{same_list}
use Rattle.check_obj.proofs.interfaces.agrees.Goals as goal

pub returns-then-is_empty : goal.returns-then-is_empty
returns-then-is_empty c =
    agreed_none c.args.several.now.keys c.args.interface (c.is_empty.ensures.0 c.if-is_empty.true)
    c.requires.several

pub loop-other-init : goal.loop-other-init
loop-other-init c = agreed_first c.new-met.ensures.empty

pub agree_with-requires-clause-met : goal.agree_with-requires-clause-met
agree_with-requires-clause-met c = c.loop-other.invariant.among

pub returns-then-not-branch : goal.returns-then-not-branch
returns-then-not-branch c =
    agreed_fails c.args.interface c.deref-other-items.result.now c.loop-other.other-index c.in_ok-agree_with.field-0
    c.loop-other.invariant c.loop-other-test.true c.in_ok-agree_with.ensures.agree c.if-not-branch.true
    (same_list (declarations_of c.args.table.now) c.args.interface c.deref-other-items.result.now _
    c.deref-other-items.ensures.value c.in_ok-above.ensures)

pub loop-other-preserved : goal.loop-other-preserved
loop-other-preserved c =
    agreed_next c.deref-other-items.result.now c.loop-other.other-index c.in_ok-agree_with.field-0
    c.loop-other.invariant c.loop-other-test.true c.in_ok-agree_with.ensures.agree c.if-not-branch.false
    c.in_ok-agree_with.ensures.types c.in_ok-agree_with.ensures.met

pub agree_with-requires-2-clause-met : goal.agree_with-requires-2-clause-met
agree_with-requires-2-clause-met c = c.loop-other.invariant.among

pub returns : goal.returns
returns c place name extended signatures there =
    IfOk-weaker _ _
    (λ (reported : Bool). reported ≡ agree_in (declarations_of c.args.table.now) c.args.interface signatures)
    (λ reported tells. agreed_all c.args.interface c.deref-other-items.result.now c.loop-other.other-index reported
    c.loop-other.invariant c.loop-other-test.false tells
    (same_list (declarations_of c.args.table.now) c.args.interface c.deref-other-items.result.now _
    c.deref-other-items.ensures.value c.in_ok-above.ensures)
    c.requires.several place name extended signatures there)
    c.agree_with-2.ensures.agree
