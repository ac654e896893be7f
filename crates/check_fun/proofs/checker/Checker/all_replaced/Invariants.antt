use Rattle.std.proofs.Common.{take}
use Rattle.check_fun.proofs.ListLemmas.{ReplacedTypes}
use Rattle.check_fun.proofs.checker.Checker.all_replaced.Given as goal

abbrev pub invariant-loop-index : goal.invariant-loop-index
invariant-loop-index l = ReplacedTypes l.fn.self l.self l.types (take l.index-index l.indices) l.found.items
