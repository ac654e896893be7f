use Rattle.std.proofs.Common.{refl, is_ok, Some}
use Rattle.check_fun.proofs.FrameLemmas.{options_pushed}
use Rattle.check_fun.proofs.SlotLemmas.{knows_added}
use Rattle.check_fun.proofs.checker.Checker.add_slot.Goals as goal

pub invariant_of-self-clause-slots_are : goal.invariant_of-self-clause-slots_are
invariant_of-self-clause-slots_are c =
    let self = c.args.self.now in
    options_pushed self.table self.slots.items c.push.new.self.items (Some c.args.found) (is_ok c.push.result)
    c.push.ensures.items c.requires.among self.slots_are

pub returns-clause-knows : goal.returns-clause-knows
returns-clause-knows c = knows_added c.args.found refl c.in_ok-push.ensures.items refl refl refl refl
