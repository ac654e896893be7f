use Rattle.std.proofs.Common.{take}
use Rattle.check_fun.proofs.FrameLemmas.{AreSlots}
use Rattle.check_fun.proofs.checker.Checker.enter_value.Given as goal

abbrev pub invariant-loop-param : goal.invariant-loop-param
invariant-loop-param l = AreSlots l.fn.self l.self (take l.param-index l.params) l.slots.items
