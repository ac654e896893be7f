use Rattle.std.proofs.Common.{take}
use Rattle.check_fun.proofs.FunctionLemmas.{AreChecked}
use Rattle.check_fun.proofs.checker.Checker.functions.Given as goal

abbrev pub invariant-loop-declaration : goal.invariant-loop-declaration
invariant-loop-declaration l = AreChecked l.fn.self l.self (take l.declaration-index l.declaration-items)
