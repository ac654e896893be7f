use Rattle.std.proofs.Common.{Some}
use Rattle.check_obj.proofs.VisibleLemmas.{undoes_shown}
use Rattle.check_obj.proofs.visible.show.Goals as goal

pub returns-in_ok-push-clause-undoes : goal.returns-in_ok-push-clause-undoes
returns-in_ok-push-clause-undoes c =
    undoes_shown c.in-Slot.slot (Some c.args.found) c.set_slot-was.result c.args.shown.now.items c.push.new.self.items
    (record { table_is = c.set_slot-was.ensures.table; knows = c.set_slot-was.ensures.knows }) c.requires
    c.set_slot-was.ensures.was c.in_ok-push.ensures.items
