use Rattle.check_obj.proofs.VisibleLemmas.{hides_last}
use Rattle.check_obj.proofs.visible.hide.Goals as goal

pub loop-slot-preserved : goal.loop-slot-preserved
loop-slot-preserved c =
    hides_last c.pop.new.self.items c.in-Some.field-0 c.loop-slot.invariant c.in-Some.ensures.items
    (record { table_is = c.set_slot.ensures.table; knows = c.set_slot.ensures.knows }) c.set_slot.ensures.first
