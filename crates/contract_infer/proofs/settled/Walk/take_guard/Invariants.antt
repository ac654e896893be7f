use Rattle.std.proofs.Common.{List, take}
use Rattle.abs_tree.specs.Syntax.{Name}
use Rattle.abs_tree.specs.SyntaxViews.{tests}
use Rattle.contract_infer.specs.SettledWalk.{named_slots_in, Takes}
use Rattle.contract_infer.proofs.settled.Walk.take_guard.Given as goal

-- the slots that the parts so far name were taken
abbrev pub invariant-loop-test : goal.invariant-loop-test
invariant-loop-test l =
    (names : List Name) → Takes (named_slots_in (tests names (take l.test-index l.guard))) l.fn.self l.self
    l.fn.row.items l.row.items
