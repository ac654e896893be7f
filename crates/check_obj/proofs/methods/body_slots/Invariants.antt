use Rattle.std.proofs.Common.{take}
use Rattle.check_fun.proofs.FrameLemmas.{AreSlots}
use Rattle.check_obj.proofs.methods.body_slots.Given as goal

abbrev pub invariant-loop-param : goal.invariant-loop-param
invariant-loop-param l = AreSlots l.fn.checker l.checker (take l.param-index l.params) l.slots.items
