use Rattle.abs_types.specs.Heads.{IsSpine}
use Rattle.abs_types.specs.TypeTables.{types_in}
use Rattle.check_fun.proofs.checker.Checker.spine.Given as goal

abbrev pub invariant-loop-inner : goal.invariant-loop-inner
invariant-loop-inner l = IsSpine (types_in l.self.table) l.fn.index l.head l.arguments.items

abbrev pub decreases-loop-inner : goal.decreases-loop-inner
decreases-loop-inner l = l.head.0
